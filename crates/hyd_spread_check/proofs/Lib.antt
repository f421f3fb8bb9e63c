pub mod SpreadRecordLemmas
