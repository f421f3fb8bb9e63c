pub mod Comparisons
pub mod ReadingsOfInstants
pub mod Roundings
