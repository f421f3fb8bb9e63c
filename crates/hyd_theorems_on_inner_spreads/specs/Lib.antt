pub mod RunsInside
