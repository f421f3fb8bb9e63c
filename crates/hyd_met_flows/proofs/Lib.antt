pub mod Tests
pub mod NearFlows
pub mod LinksOfSetNets
pub mod FlowsOverTies
pub mod HeadsOfNodes
pub mod TanksRead
