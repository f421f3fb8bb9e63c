-- What crates above name of the crates below.
pub use Rattle.hyd_run.proofs.RunLemmas.{moved-whole}
