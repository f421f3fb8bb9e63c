pub mod PartLemmas
pub mod StepLemmas
pub mod RunLemmas
pub mod WholeRunLemmas
