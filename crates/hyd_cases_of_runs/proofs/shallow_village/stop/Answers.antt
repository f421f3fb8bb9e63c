use Rattle.std.proofs.Common.{refl, arith}
use Rattle.hyd_cases_of_runs.proofs.ShallowRun.{has_none}
use Rattle.hyd_cases_of_runs.proofs.shallow_village.stop.Goals as goal

pub returns : goal.returns
returns c = (refl, record { period_is = refl; holds = (omega arith, has_none) })
