pub mod OpenRunsForSpreads
pub mod OpenAgreementWithin
