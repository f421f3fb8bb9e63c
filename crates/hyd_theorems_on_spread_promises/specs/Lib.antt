pub mod ReportsOnBothSides
