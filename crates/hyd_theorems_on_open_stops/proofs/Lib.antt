pub mod ArrivalsDecided
pub mod NestedArrivals
mod LengthsOfRecords
pub mod NestedEnds
mod TightRows
pub mod OnwardOrStopped
