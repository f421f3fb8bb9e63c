pub mod Sequence
pub mod GeneratedText
