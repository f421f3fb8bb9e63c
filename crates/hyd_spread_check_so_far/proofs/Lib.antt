pub mod LinesOfOpenTexts
pub mod SpreadReading
pub mod SpreadConclusions
pub mod WholeSpreadCheckLemmas
