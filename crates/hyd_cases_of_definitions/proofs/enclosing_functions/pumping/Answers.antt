use Rattle.std.proofs.Common.{refl}
use Rattle.hyd_cases_of_definitions.proofs.enclosing_functions.pumping.Goals as goal

pub returns-clause-low : goal.returns-clause-low
returns-clause-low c = refl

pub returns-clause-high : goal.returns-clause-high
returns-clause-high c = refl
