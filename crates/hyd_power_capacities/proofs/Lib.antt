pub mod OneCapacityOfNumbers
pub mod LossesInTicks
pub mod CapacitiesEncloseLosses
pub mod PipeLaws
pub mod MinorLosses
pub mod OnePowerCapacity
