use Rattle.std.proofs.Common.{refl}
use Rattle.hyd_cases_of_definitions.proofs.scales_and_patterns.scales.Goals as goal

pub returns-clause-ticks : goal.returns-clause-ticks
returns-clause-ticks c = refl

pub returns-clause-tolerance : goal.returns-clause-tolerance
returns-clause-tolerance c = refl

pub returns-clause-total : goal.returns-clause-total
returns-clause-total c = refl
