pub mod KnownStocksOfRows
pub mod StandingsWithin
pub mod OpenTanksOfCode
pub mod DemandsOver
pub mod StartsAlone
