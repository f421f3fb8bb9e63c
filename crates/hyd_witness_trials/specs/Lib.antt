pub mod Findings
pub mod WitnessSoFar
