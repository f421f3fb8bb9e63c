pub mod FactsOfOpenPeriod
