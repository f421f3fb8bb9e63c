mod ComingBySeconds
pub mod NextInstant
pub mod SecondsOfWatched
pub mod LevelsAhead
pub mod NearestSoFar
pub mod ArrivalsByFacts
