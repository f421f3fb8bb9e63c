pub mod SummarisedRuns
