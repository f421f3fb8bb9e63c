pub mod MadeOver
pub mod PeriodAttempt
pub mod DuePeriods
pub mod SpreadRunView
pub mod SpreadSteps
pub mod GivenVectors
