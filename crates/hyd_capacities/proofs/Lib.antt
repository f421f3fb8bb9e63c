pub mod Exponents
pub mod HeadTicks
pub mod PipePairs
pub mod CapacitiesNotRefused
