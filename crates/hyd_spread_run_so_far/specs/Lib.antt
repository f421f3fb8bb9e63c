pub mod SpreadRunSoFar
