pub mod FirstWrongRow
pub mod IdTables
pub mod WrongInSection
pub mod QuantityRanges
pub mod RowsOfLines
