-- What lemmas above name of equal numbers.
pub use Rattle.hyd_net.proofs.EqualValues.{Scaled-equal, Pair-equal, PowerCapacity-equal}
