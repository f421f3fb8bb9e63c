pub mod BoundedPeriods
