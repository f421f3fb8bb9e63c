pub mod Statuses
pub mod DeskContents
pub mod FaultsAndRefusals
pub mod OpeningsOfRuns
pub mod WrittenCertificates
pub mod NetworkOrFault
