pub mod OpenCheckSoFar
