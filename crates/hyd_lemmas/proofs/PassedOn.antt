-- What crates above name of the crates below.
pub use Rattle.hyd_spec.proofs.PassedOn.{Pair-equal, PowerCapacity-equal}
