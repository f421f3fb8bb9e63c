pub mod ItemsOfBothSides
pub mod VectorsOfBothSides
