pub mod TurnsWithHeldJunction
pub mod SearchesOnSides
pub mod StudyView
pub mod EdgesInRange
pub mod SidesOfClosures
