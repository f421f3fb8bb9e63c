pub mod HazenWilliamsLosses
pub mod PowerLosses
pub mod CutPowers
pub mod WholeFlows
pub mod EnclosingFlows
pub mod PowerCapacities
