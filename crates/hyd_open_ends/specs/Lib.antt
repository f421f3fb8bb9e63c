pub mod Ways
pub mod FoundEnds
