use Rattle.std.proofs.Common.{refl}
use Rattle.hyd_cases_of_runs.proofs.two_tank_town_ends.limit.Goals as goal

pub returns : goal.returns
returns c = refl
