use Rattle.std.proofs.Common.{refl}
use Rattle.hyd_cases_of_runs.proofs.two_tank_town_ends.beginnings.Goals as goal

pub returns-clause-upper : goal.returns-clause-upper
returns-clause-upper c = refl

pub returns-clause-lower : goal.returns-clause-lower
returns-clause-lower c = refl
