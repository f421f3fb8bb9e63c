pub mod LongerRuns
