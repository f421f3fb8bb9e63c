pub mod FlowsOfLinks
pub mod NetsInPeriods
