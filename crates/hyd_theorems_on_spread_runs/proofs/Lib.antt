mod InflowsWithin
pub mod OutflowsWithin
pub mod BoundedReadings
pub mod BoundedLevels
mod BoundedLengths
mod SpannedPairs
pub mod BoundedByRecords
pub mod StartsWithin
pub mod HistoriesAlongRuns
pub mod SameBoxes
pub mod RunsAlone
pub mod CertificatesInside
