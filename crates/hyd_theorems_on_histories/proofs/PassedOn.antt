-- What crates above name of the crates below.
pub use Rattle.hyd_theorems_on_definitions.proofs.DecidedByEnds.{rule_tells}
pub use Rattle.hyd_theorems_on_definitions.proofs.Outflows.{pressure-above}
