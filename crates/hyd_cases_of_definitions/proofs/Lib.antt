pub mod CapacitiesWithGivenEnds
pub mod GreatEmitter
