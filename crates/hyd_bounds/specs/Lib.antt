pub mod VectorsInOrder
pub mod StatusWords
pub mod FlowsAndStatusesOfAssignments
