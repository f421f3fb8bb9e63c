pub mod PenLemmas
pub mod EventLemmas
pub mod StepLemmas
pub mod RunLemmas
pub mod TextLemmas
