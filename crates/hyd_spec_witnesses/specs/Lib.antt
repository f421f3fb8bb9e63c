pub mod EnclosingFunctionsAtScale
pub mod DemandsAtScale
pub mod MetFlows
pub mod MetPeriods
pub mod FirstUnmetClause
pub mod MiddleCandidate
pub mod WitnessText
pub mod FaultyLine
