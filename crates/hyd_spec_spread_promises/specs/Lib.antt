pub mod SharpOverSpreads
pub mod PromisesOfSpreadRuns
pub mod PromisesOfSpreadChecks
