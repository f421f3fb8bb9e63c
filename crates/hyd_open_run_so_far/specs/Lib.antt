pub mod OpenRunSoFar
