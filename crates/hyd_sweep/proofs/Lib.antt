pub mod OneHeadThroughout
pub mod RaiseValues
pub mod RaisesRoundsAndSweeps
pub mod LeapsInTurn
pub mod ReachOfStrides
pub mod NoLinkBetweenJunctions
