pub mod OutermostPairs
pub mod RunsForSpreads
pub mod AgreementWithin
