pub mod AgreementOverStarts
pub mod WaysInside
