pub mod OpenReportLine
pub mod OpenReport
pub mod ClaimsOfOpenLines
pub mod PromisesOfOpenReports
