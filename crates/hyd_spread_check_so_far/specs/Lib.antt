pub mod SpreadCheckSoFar
