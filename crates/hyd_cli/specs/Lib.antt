pub mod WordsAndUsageLine
pub mod Answers
pub mod RunAnswers
pub mod SpreadRuns
pub mod GenAnswers
pub mod TaskWithNetwork
pub mod Commands
pub mod PassedOn
