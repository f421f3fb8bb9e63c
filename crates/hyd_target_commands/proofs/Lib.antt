pub mod TextsPrinted
pub mod StatusesOfTargets
