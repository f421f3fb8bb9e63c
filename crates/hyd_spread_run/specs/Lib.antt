pub mod PeriodsOfSpreadRuns
