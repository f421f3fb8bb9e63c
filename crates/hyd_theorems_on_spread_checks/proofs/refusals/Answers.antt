use Rattle.hyd_theorems_on_spread_checks.proofs.NeverRefusedOver.{over_not_refused}
use Rattle.hyd_theorems_on_spread_checks.proofs.refusals.Goals as goal

pub returns : goal.returns
returns c = λ project spread text is printed. over_not_refused project spread text is printed
