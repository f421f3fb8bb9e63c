pub mod FlowsWithin
pub mod Brackets
pub mod LawsOfPowers
