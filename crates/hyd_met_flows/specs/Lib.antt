pub mod Periods
pub mod TieFlows
