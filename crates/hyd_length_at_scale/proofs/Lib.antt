pub mod FirstClockInstant
pub mod NextReportTime
pub mod TimeControlsSoFar
pub mod FirstSecondsOfLevels
pub mod TestsKept
pub mod LeastEnd
pub mod StocksOfMetPeriods
pub mod CarriedLevels
