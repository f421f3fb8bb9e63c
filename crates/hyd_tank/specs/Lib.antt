pub mod StockIntervals
pub mod Contents
pub mod CurveByLevelOrVolume
pub mod Targets
