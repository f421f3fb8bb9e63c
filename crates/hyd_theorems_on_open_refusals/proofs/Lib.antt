pub mod OneOpenRefusal
pub mod RefusedOrValid
pub mod OpenTexts
pub mod RecordsOfRuns
