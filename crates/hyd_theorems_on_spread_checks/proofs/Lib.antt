pub mod OneSpreadRun
pub mod NeverRefusedOver
pub mod AllRecordsOfTexts
pub mod OneSpreadAnswer
