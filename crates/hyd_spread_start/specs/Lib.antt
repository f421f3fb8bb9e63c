pub mod StartsOver
pub mod StartsOfRuns
