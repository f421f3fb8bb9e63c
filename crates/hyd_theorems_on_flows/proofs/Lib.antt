pub mod HeldVectors
pub mod IntervalsInOrder
pub mod FlowsOfHistories
pub mod OneCause
