pub mod RoomOfRuns
pub mod PeriodAttempt
pub mod NarrowRecordsAndStops
pub mod RunView
pub mod Steps
pub mod Acceptance
