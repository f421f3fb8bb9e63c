pub mod QuadraticRoots
pub mod LineAtDifference
pub mod BetweenPressures
