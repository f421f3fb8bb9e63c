pub mod ReservoirsAndTanks
pub mod DemandsAndEmitters
pub mod WholeJunctions
pub mod LinesInForce
pub mod PatternsSoFar
