pub mod SizeOfSearch
pub mod WayToProposedHeads
pub mod SoughtVectors
pub mod PassedOn
