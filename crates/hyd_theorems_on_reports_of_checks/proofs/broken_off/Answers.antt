use Rattle.hyd_theorems_on_reports_of_checks.proofs.OneAnswer.{broken_front}
use Rattle.hyd_theorems_on_reports_of_checks.proofs.broken_off.Goals as goal

pub returns : goal.returns
returns c = broken_front
