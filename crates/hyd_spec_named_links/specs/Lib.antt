pub mod NamedLinks
pub mod RefusedNames
