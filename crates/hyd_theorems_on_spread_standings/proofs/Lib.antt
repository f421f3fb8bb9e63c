pub mod FlowsOverPairs
pub mod FirmOverSpreads
