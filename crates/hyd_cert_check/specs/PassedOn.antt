-- What crates above name of the crates below.
pub use Rattle.hyd_run.specs.Pens.{told}
pub use Rattle.hyd_run.specs.Runs.{first_line, periods_left}
