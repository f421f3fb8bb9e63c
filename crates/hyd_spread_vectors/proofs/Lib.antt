pub mod VectorsOfSides
pub mod CertificatesOver
pub mod FoundOnBoth
pub mod CloseVectors
