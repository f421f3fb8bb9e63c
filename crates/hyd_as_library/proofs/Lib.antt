pub mod DeskLemmas
pub mod PeriodLemmas
