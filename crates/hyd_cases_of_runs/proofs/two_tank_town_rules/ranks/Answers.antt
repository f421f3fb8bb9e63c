use Rattle.std.proofs.Common.{refl}
use Rattle.hyd_cases_of_runs.proofs.two_tank_town_rules.ranks.Goals as goal

pub returns-clause-none : goal.returns-clause-none
returns-clause-none c = refl

pub returns-clause-negative : goal.returns-clause-negative
returns-clause-negative c = refl

pub returns-clause-nothing : goal.returns-clause-nothing
returns-clause-nothing c = refl

pub returns-clause-one : goal.returns-clause-one
returns-clause-one c = refl
