use Rattle.std.proofs.Common.{refl}
use Rattle.hyd_cases_of_runs.proofs.two_tank_town_starts.levels.Goals as goal

pub returns-clause-above : goal.returns-clause-above
returns-clause-above c = refl

pub returns-clause-below : goal.returns-clause-below
returns-clause-below c = refl
