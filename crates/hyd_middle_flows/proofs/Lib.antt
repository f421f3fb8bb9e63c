pub mod WindowsHalved
pub mod OtherFlows
pub mod HeadsBetween
pub mod MiddleMoments
