pub mod PeriodsOverSpreads
pub mod DuePeriodsOver
pub mod StopsOverSpreads
pub mod StandingsOverSpreads
pub mod HandedInOverSpreads
pub mod WithoutSpread
