pub mod PrintLemmas
pub mod AnswerLemmas
