pub mod NodeAndLinkLines
pub mod PeriodLines
pub mod PrintedIntervals
pub mod EventTextsAndChangesByRules
pub mod RefusedText
