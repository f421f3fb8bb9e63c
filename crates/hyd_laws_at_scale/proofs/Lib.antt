pub mod Scales
pub mod ScaledRoots
pub mod ComposedWindows
pub mod LineAtScale
pub mod Pressures
