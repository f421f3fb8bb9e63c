pub mod RecordOnGrid
