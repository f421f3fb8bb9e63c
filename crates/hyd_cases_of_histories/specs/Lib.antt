pub mod OneLink
pub mod StatusWords
pub mod Spurs
pub mod Timed
