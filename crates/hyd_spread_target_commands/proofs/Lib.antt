pub mod AnswersOfTexts
pub mod TextsPrintedOver
pub mod StatusesOfBrackets
pub mod StatusesOfClosures
pub mod PassedOn
