pub mod OneOpenRun
pub mod NeverRefusedOpenly
pub mod LongestReadings
pub mod OneOpenAnswer
