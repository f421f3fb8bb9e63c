pub mod PutOutRuns
pub mod SpreadLemmas
pub mod SpreadCheckLemmas
pub mod SpreadTextLemmas
pub mod PassedOn
