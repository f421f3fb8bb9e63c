mod CarriedLeftByFacts
mod EndedOpenPeriods
pub mod PeriodsLookedAt
pub mod StocksThere
