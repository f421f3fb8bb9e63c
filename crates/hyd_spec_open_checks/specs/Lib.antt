pub mod OpenRunsBrokenOff
pub mod OpenChecks
