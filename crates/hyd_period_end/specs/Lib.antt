pub mod FactsBeforeVectors
pub mod OpenMatters
pub mod EndOfPeriod
pub mod Events
