pub mod OpenTexts
pub mod ChangesApart
pub mod OpenStateLines
pub mod OpenReports
pub mod PutLines
