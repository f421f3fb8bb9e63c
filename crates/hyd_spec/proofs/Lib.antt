pub mod EqualNumbers
pub mod PassedOn
