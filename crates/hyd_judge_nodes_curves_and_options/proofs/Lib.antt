pub mod PressureRowLemmas
pub mod DemandLemmas
pub mod EmitterLemmas
pub mod ExtremeLemmas
pub mod DistinctIdCounts
pub mod CurveLemmas
pub mod NodeLemmas
pub mod PatternLemmas
