pub mod NetOutflowBySide
pub mod ComparisonPrinciple
