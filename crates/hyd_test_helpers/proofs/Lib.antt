pub mod Commands
pub mod Levels
