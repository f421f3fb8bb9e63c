pub mod SpreadReport
pub mod TextsOfSpreadReports
pub mod ClaimsWithinSpreads
