pub mod SpentRounds
