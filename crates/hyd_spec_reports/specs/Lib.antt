pub mod ReportLine
pub mod Report
pub mod Claims
pub mod PromisesOfRunsAndChecks
