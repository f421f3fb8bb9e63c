-- What crates above name of the crates below.
pub use Rattle.hyd_check_command.proofs.CheckLemmas.{prints_nothing}
