pub mod SameOpenEnds
pub mod SameOpenRecords
pub mod SameOpenReports
pub mod OpenRunsWithoutSpare
