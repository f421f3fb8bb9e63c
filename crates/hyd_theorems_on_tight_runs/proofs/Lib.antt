pub mod TwoRuns
pub mod Texts
pub mod BrokenOff
