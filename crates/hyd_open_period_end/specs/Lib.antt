pub mod CarriedAtEnd
pub mod LookedAt
pub mod OpenMatters
pub mod EndOfOpenPeriod
