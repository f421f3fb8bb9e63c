-- What crates above name of the crates below.
pub use Rattle.hyd_net.proofs.EqualValues.{Pair-equal, PowerCapacity-equal}
