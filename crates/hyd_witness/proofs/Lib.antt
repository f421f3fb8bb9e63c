pub mod LastPeriods
pub mod CandidateLemmas
