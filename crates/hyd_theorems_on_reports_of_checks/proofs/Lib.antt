pub mod RecordsOfOneText
pub mod OneReason
pub mod BrokenOff
pub mod EntriesOfText
pub mod OneReasonNaming
pub mod BrokenOffNaming
pub mod OneAnswer
