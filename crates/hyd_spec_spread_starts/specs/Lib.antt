pub mod StartsOfSpreads
