pub mod RefusedSpreads
pub mod SpreadFiles
pub mod NetsRead
