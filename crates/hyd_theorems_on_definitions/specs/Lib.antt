pub mod LyingInIntervals
pub mod Sides
pub mod PressureDrivenDemand
pub mod SoundLawsAndGrids
pub mod ReachedFirst
pub mod SoundTanks
pub mod VerdictsOfTests
