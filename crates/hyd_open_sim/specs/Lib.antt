pub mod RoomForEvents
pub mod EndedPeriods
pub mod PeriodAttempt
pub mod NarrowRecords
pub mod RunView
pub mod Steps
pub mod Acceptance
