pub mod Held
pub mod Points
