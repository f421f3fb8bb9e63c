pub mod VectorsInTurn
pub mod SoughtVectors
pub mod CertificatesBeyondProposedHeads
pub mod RoundsSpentAnywhere
pub mod StartFromOtherSide
pub mod SearchGoesOn
pub mod PassedOn
