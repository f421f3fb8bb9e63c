use Rattle.std.proofs.Common.{refl}
use Rattle.hyd_cases_of_definitions.proofs.numbers.pressures.Goals as goal

pub returns-clause-pounds_down : goal.returns-clause-pounds_down
returns-clause-pounds_down c = refl

pub returns-clause-pounds_up : goal.returns-clause-pounds_up
returns-clause-pounds_up c = refl

pub returns-clause-metres : goal.returns-clause-metres
returns-clause-metres c = refl
