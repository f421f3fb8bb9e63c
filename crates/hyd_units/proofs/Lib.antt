mod Digits
pub mod DecimalLaws
mod Examples
mod RoundedFlows
pub mod FloorsAndCeilings
mod WritingLemmas
