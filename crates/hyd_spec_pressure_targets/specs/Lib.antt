pub mod TargetHeads
pub mod FirstPeriod
pub mod BracketOfDraws
pub mod ClosureWords
pub mod LinesOfTargets
pub mod PromisesOfTargets
