use Rattle.hyd_theorems_on_answers.proofs.TwoCalls.{same_report}
use Rattle.hyd_theorems_on_answers.proofs.two_calls.same_report.Goals as goal

pub returns : goal.returns
returns c = same_report
