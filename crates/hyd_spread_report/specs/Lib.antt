pub mod LinesOverBothSides
