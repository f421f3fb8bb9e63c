pub mod FactsByVectors
pub mod EndedPeriods
pub mod EventsSoFar
