pub mod DiameterRoots
pub mod KeptPromises
