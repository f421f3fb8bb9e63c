pub mod OrderedPairs
pub mod HeadsOfBothSides
pub mod FlowsOfBothSides
pub mod OutflowsOfBothSides
pub mod InflowsOfBothSides
