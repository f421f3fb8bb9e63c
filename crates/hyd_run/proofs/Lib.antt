pub mod PenLemmas
pub mod PeriodLemmas
pub mod RunLemmas
pub mod StepLemmas
pub mod WholeRunLemmas
pub mod PassedOn
