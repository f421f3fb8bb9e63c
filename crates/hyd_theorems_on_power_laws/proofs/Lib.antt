pub mod ScalesOfLosses
pub mod TestsAtScale
pub mod EnclosingAtScale
pub mod SharpEnds
pub mod PipeLawsAtScale
pub mod AtScaleOne
