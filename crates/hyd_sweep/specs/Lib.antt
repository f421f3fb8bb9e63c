pub mod Sweeps
pub mod Leaps
pub mod Strides
pub mod LeapingRounds
