pub mod FirstLines
pub mod LinesThatPass
pub mod ReadingsOfLines
pub mod FaultsInEntries
pub mod LinesOfEntries
pub mod EntriesOfOneText
pub mod OneFaultWithFlows
