use Rattle.std.proofs.Common.{refl}
use Rattle.hyd_cases_of_runs.proofs.basins.starts.Goals as goal

pub returns-clause-curved : goal.returns-clause-curved
returns-clause-curved c = refl

pub returns-clause-spilling : goal.returns-clause-spilling
returns-clause-spilling c = refl
