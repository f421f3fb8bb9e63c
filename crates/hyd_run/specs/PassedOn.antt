-- What crates above name of the crates below.
pub use Rattle.hyd_report.specs.NodeAndLinkLines.{texts}
pub use Rattle.hyd_report.specs.PeriodLines.{AreBounds, AreTankFacts, lines_of}
pub use Rattle.hyd_sim.specs.NarrowRecordsAndStops.{NamesStuck}
