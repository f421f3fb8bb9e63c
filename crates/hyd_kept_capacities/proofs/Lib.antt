pub mod Keeping
pub mod SameNumbers
