-- What crates above name of the crates below.
pub use Rattle.hyd_sweep.proofs.RaisesRoundsAndSweeps.{round-start}
