pub mod Instants
pub mod MetPeriods
pub mod LevelEnds
pub mod ReservedMemory
