use Rattle.hyd_theorems_on_open_reports.proofs.KnownLines.{known_bytes, known_report}
use Rattle.hyd_theorems_on_open_reports.proofs.words.Goals as goal

pub returns-clause-line : goal.returns-clause-line
returns-clause-line c = known_bytes

pub returns-clause-report : goal.returns-clause-report
returns-clause-report c = known_report
