-- What crates above name of the crates below.
pub use Rattle.hyd_theorems_on_definitions.specs.LyingInIntervals.{LevelsLie}
pub use Rattle.hyd_theorems_on_definitions.specs.VerdictsOfTests.{Tells}
