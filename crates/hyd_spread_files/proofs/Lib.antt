pub mod OpenedRuns
pub mod RefusalLemmas
