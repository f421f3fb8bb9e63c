pub mod VectorsOfBothNetworks
pub mod NarrowForSpreads
