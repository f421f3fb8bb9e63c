pub mod LackingOver
pub mod StuckAlone
