pub mod FlowLines
pub mod PromisesWithFlows
