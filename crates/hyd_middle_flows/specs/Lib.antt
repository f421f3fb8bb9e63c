pub mod HalfwayFlows
pub mod CandidateParts
