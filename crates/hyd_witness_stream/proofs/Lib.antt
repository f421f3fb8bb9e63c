pub mod PenLemmas
pub mod FreshMoments
pub mod FoundLemmas
pub mod CertificatesReadWhole
pub mod WitnessLemmas
