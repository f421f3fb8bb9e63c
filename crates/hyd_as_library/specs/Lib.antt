pub mod Periods
pub mod AtDesk
