pub mod Scales
pub mod Windows
