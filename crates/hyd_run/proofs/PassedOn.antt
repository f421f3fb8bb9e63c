-- What crates above name of the crates below.
pub use Rattle.hyd_report.proofs.ReportLemmas.{lines_are_report}
