pub mod Motions
pub mod Contents
pub mod Targets
pub mod VolumeCurves
pub mod ExactLevels
