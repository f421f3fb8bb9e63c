pub mod OpenAnswers
pub mod PassedOn
