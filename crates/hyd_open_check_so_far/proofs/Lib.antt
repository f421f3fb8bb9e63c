pub mod LinesOfOpenTexts
pub mod OpenReading
pub mod OpenConclusions
pub mod WholeOpenCheckLemmas
