use Rattle.std.proofs.Common.{refl}
use Rattle.hyd_cases_of_runs.proofs.run_ends.statuses.Goals as goal

pub returns : goal.returns
returns c = refl
