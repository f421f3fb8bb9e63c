-- What crates above name of the crates below.
pub use Rattle.hyd_spread_run.specs.PeriodsOfSpreadRuns.{Asked, IsBrokenOffOver, IsPutOutOver, asked_of, standing_of}
