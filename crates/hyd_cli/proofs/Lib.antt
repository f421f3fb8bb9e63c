pub mod AnswerLemmas
pub mod CommandsOfWords
pub mod GenLemmas
pub mod TaskWithoutMemory
pub mod OrdersWithoutMemory
pub mod RunWordsLemmas
pub mod SpreadRunLemmas
pub mod SpreadOrderLemmas
