mod KnownLines
mod QuietChanges
pub mod StartAndEndLinesHold
mod OpenLinesHold
pub mod EveryLineHolds
pub mod OneOpenReport
