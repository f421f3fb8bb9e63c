mod FirstPeriodsReady
pub mod ClosuresWithin
