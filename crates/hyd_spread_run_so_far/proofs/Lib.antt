pub mod CountsOfSpreads
pub mod SpreadRunTexts
pub mod SpreadRunLemmas
pub mod WholeSpreadRunLemmas
