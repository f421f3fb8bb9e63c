-- What crates above name of the crates below.
pub use Rattle.hyd_sweep.specs.LeapingRounds.{AreLeapingRounds, no_round, one_round}
