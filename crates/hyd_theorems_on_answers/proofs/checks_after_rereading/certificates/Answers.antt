use Rattle.hyd_theorems_on_answers.proofs.OtherReadingsNaming.{carried_some}
use Rattle.hyd_theorems_on_answers.proofs.checks_after_rereading.certificates.Goals as goal

pub returns : goal.returns
returns c = carried_some
