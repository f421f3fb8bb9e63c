pub mod OpenLines
pub mod OpenPeriodOrEndLine
pub mod OpenRowView
pub mod OpenTexts
pub mod OpenFaults
