pub mod OtherReadings
pub mod OtherReadingsNaming
pub mod TwoCalls
pub mod TwoCallsNaming
pub mod OtherReadingsOpenly
pub mod TwoCallsOpenly
pub mod VersionsWritten
