use Rattle.hyd_theorems_on_answers.proofs.OtherReadingsOpenly.{not_refused_openly}
use Rattle.hyd_theorems_on_answers.proofs.open_checks_after_rereading.refusals.Goals as goal

pub returns : goal.returns
returns c = not_refused_openly
