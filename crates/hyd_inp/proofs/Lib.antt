pub mod FirstWrongAmongSections
pub mod FaultFromFindings
pub mod IdsInTheirOrder
