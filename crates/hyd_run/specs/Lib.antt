pub mod Pens
pub mod Runs
pub mod PassedOn
