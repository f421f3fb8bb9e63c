pub mod MomentView
pub mod Lines
pub mod PeriodOrEndLine
pub mod FirstFaults
pub mod PartsOfWitness
pub mod ReaderView
