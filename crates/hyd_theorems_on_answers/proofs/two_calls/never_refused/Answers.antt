use Rattle.hyd_theorems_on_answers.proofs.TwoCalls.{not_refused}
use Rattle.hyd_theorems_on_answers.proofs.two_calls.never_refused.Goals as goal

pub returns : goal.returns
returns c = not_refused
