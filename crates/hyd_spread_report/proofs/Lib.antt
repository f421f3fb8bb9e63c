pub mod LinesOfBothSides
pub mod PartsPut
pub mod SpreadStateLines
pub mod SpreadReports
