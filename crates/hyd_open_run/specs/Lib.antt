pub mod PeriodsOfOpenRuns
