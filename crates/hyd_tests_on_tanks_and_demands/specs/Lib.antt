pub mod Basins
