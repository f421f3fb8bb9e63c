-- What the answers of a check speak of: a run for a spread.
pub use Rattle.hyd_spread_run.specs.PeriodsOfSpreadRuns.{SpreadSimView, standing_of}
