mod ClaimsWithin
mod StateLinesWithin
mod SettledStandings
pub mod EveryLineHoldsWithin
pub mod OneSpreadReport
pub mod ReportsAlone
