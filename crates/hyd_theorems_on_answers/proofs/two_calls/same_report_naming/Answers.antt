use Rattle.hyd_theorems_on_answers.proofs.TwoCallsNaming.{same_report_naming}
use Rattle.hyd_theorems_on_answers.proofs.two_calls.same_report_naming.Goals as goal

pub returns : goal.returns
returns c = same_report_naming
