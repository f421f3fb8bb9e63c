pub mod FlowBoxes
pub mod InflowsInOrder
pub mod OutflowBoxes
pub mod StatusWordByOwnLaw
pub mod FlowsInSpans
pub mod PinnedInOrder
