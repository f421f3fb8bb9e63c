pub mod GridsOfSpreads
pub mod RecordsInside
