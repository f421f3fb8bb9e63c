-- What crates above name of the crates below.
pub use Rattle.hyd_lemmas.proofs.BooleanTests.{lt-from, lt-not}
pub use Rattle.hyd_lemmas.proofs.Integers.{floor_at_most_ceiling, floor_greatest, product_is}
pub use Rattle.hyd_lemmas.proofs.KnotLines.{line_is, one-more, two-more}
