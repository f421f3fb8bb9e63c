pub mod LastRows
pub mod OpenTanks
pub mod StartsWithRows
