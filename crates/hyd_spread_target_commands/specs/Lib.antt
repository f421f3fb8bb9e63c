pub mod AnswersByTexts
pub mod SpreadDemands
pub mod SpreadBrackets
pub mod SpreadClosures
pub mod SpreadTargetOrders
pub mod PassedOn
