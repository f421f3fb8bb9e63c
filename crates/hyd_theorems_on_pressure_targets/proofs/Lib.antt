pub mod TargetHeads
pub mod FirstPeriodCompared
pub mod EdgesHold
pub mod WordsHold
pub mod OneWordAndEdge
