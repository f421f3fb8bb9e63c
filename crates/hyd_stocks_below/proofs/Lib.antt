pub mod FlooredLevels
pub mod KeptVolumes
pub mod ValuesSoFar
pub mod VolumesKept
pub mod RangesOfTanks
pub mod CarriedLevels
