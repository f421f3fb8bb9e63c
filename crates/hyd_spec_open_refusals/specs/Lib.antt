pub mod RefusedOpenRecords
pub mod RefusalsOfOpenChecks
