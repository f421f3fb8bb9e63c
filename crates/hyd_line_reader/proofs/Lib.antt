pub mod Numerals
pub mod SplitTexts
