pub mod OpenReadings
pub mod Matters
