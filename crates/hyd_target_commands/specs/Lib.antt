pub mod PrintedTexts
pub mod PrintedDemands
pub mod BracketAnswers
pub mod ClosuresAnswers
pub mod CommandsOnTargets
