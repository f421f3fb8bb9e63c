pub mod Colons
pub mod SmallNumbers
