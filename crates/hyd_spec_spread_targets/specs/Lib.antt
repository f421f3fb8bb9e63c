pub mod FirstPeriodWithin
pub mod BracketsOverPairs
pub mod WordsOverPairs
