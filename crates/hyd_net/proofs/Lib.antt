pub mod IdLemmas
pub mod EqualValues
