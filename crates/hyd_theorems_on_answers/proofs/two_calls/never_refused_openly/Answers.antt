use Rattle.hyd_theorems_on_answers.proofs.TwoCallsOpenly.{not_refused_openly}
use Rattle.hyd_theorems_on_answers.proofs.two_calls.never_refused_openly.Goals as goal

pub returns : goal.returns
returns c = not_refused_openly
