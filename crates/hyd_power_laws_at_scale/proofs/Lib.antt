pub mod ShiftedNumbers
pub mod TestsInParts
