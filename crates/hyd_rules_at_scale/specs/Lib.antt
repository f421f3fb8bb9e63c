pub mod Instants
pub mod Premises
pub mod Quantities
