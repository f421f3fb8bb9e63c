pub mod SpreadAnswers
pub mod SpreadChecks
pub mod SpreadOrders
pub mod PassedOn
