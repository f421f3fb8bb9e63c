pub mod FaultOrNoMemory
pub mod WaterSourceRows
pub mod SectionsInJudgingOrder
pub mod Parts
pub mod IdTables
pub mod RowsToBuildFrom
