pub mod Spreads
pub mod IntervalsOfData
pub mod NetworksWithin
pub mod HistoriesWithin
pub mod OutermostGrids
