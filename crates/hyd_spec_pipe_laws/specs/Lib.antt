pub mod SharpEnds
pub mod FlowsAtScale
