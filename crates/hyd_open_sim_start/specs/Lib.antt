pub mod StandingsOfOpenRuns
pub mod StartedPeriods
pub mod GivenVectors
