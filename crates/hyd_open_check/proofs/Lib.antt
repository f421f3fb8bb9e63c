pub mod OpenRecordLemmas
