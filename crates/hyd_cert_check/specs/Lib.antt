pub mod ReaderAndPen
pub mod ChecksWithFlows
pub mod Checks
pub mod RecordByRecord
pub mod PassedOn
