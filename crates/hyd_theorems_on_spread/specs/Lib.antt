pub mod GridsBeyondOthers
pub mod AssignmentsWithin
pub mod EndsTaken
