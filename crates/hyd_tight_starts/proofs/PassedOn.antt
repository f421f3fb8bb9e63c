-- What crates above name of the crates below.
pub use Rattle.hyd_vector_check.proofs.FlowsOfLinkEnds.{stands-for}
