-- What crates above name of the crates below.
pub use Rattle.hyd_period_facts.specs.PassedOn.{AreInOrder, IsVector}
