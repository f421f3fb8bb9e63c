pub mod OpenPeriodLemmas
pub mod OpenStepLemmas
