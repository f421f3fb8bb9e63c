pub mod EndsOfContents
pub mod VolumesOnCurve
pub mod Goals
pub mod LevelsInReach
