use Rattle.hyd_theorems_on_checks.proofs.EndLineNotRefused.{no_other_end}
use Rattle.hyd_theorems_on_checks.proofs.refused_ends.Goals as goal

pub returns : goal.returns
returns c = no_other_end
