pub mod Nesting
pub mod StandingsOfRuns
pub mod FirstAmongWatched
pub mod GoingOnOrStopped
