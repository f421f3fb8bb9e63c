pub mod ComposedLaws
pub mod ComposedLawsAreLaws
pub mod KnotsOfStraightLines
pub mod LinkLaws
pub mod DemandLaws
