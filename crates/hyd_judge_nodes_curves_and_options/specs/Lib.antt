pub mod Patterns
pub mod Curves
pub mod NodeFaults
pub mod Demands
pub mod Options
pub mod Extremes
pub mod JudgedNodes
