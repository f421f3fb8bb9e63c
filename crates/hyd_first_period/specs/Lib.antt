pub mod FirstPeriods
