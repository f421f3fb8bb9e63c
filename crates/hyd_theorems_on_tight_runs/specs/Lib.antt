pub mod TightRuns
