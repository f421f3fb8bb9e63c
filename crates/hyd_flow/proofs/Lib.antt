pub mod LinksOfNets
pub mod FoundVectors
pub mod NamesInParts
pub mod FlowsOfLinks
pub mod RefusedParts
pub mod LinesOfFlows
