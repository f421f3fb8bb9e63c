use Rattle.hyd_theorems_on_answers.proofs.OtherReadingsOpenly.{carried_openly}
use Rattle.hyd_theorems_on_answers.proofs.open_checks_after_rereading.certificates.Goals as goal

pub returns : goal.returns
returns c = carried_openly
