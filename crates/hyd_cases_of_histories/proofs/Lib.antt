pub mod Single
pub mod TimedPeriods
pub mod SpurSound
pub mod RoundPairs
pub mod PipeMade
