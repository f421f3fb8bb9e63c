use Rattle.hyd_theorems_on_answers.proofs.TwoCallsOpenly.{same_report_openly}
use Rattle.hyd_theorems_on_answers.proofs.two_calls.same_report_openly.Goals as goal

pub returns : goal.returns
returns c = same_report_openly
