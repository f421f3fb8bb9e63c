pub mod Benches
pub mod RefusedCertificates
pub mod WitnessPen
pub mod SearchSoFar
pub mod SearchEnds
