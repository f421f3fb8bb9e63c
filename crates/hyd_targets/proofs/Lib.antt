pub mod TargetsOfJunctions
mod PiecesInOrder
pub mod ClosuresOfPipes
