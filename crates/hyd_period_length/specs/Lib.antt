pub mod Endings
pub mod Instants
pub mod TruthOfRules
pub mod TriedRules
pub mod Readings
pub mod ReservedMemory
pub mod FlowBoxes
pub mod PassedOn
