use Rattle.std.proofs.Common.{refl}
use Rattle.hyd_cases_of_runs.proofs.hill_town.start.Goals as goal

pub returns : goal.returns
returns c = refl
