pub mod RunsAsOthers
pub mod BoundedOpenly
