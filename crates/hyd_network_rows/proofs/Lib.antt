pub mod KeyAndValueLemmas
pub mod StageLemmas
pub mod FormulaLemmas
pub mod RuleLinesBehindLemmas
