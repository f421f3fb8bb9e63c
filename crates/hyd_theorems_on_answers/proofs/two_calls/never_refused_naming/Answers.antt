use Rattle.hyd_theorems_on_answers.proofs.TwoCallsNaming.{not_refused_naming}
use Rattle.hyd_theorems_on_answers.proofs.two_calls.never_refused_naming.Goals as goal

pub returns : goal.returns
returns c = not_refused_naming
