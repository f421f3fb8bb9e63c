pub mod StandingsBehindPeriods
pub mod EndsOfDuePeriods
pub mod StopsOfDuePeriods
pub mod DuePeriodLemmas
pub mod TakenAndRefusedRecords
