pub mod WithoutSpare
