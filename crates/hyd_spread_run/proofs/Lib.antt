pub mod SpreadPeriodLemmas
pub mod SpreadStepLemmas
