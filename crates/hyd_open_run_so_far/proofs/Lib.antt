pub mod OpenRunTexts
pub mod OpenRunLemmas
pub mod WholeOpenRunLemmas
