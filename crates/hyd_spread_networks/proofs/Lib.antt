pub mod ListsByNumber
pub mod EndsLemmas
pub mod HeadLemmas
pub mod DemandLemmas
pub mod OutermostNets
pub mod EmitterLemmas
pub mod NetsOfBothSides
