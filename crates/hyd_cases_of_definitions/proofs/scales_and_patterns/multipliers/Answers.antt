use Rattle.std.proofs.Common.{refl}
use Rattle.hyd_cases_of_definitions.proofs.scales_and_patterns.multipliers.Goals as goal

pub returns : goal.returns
returns c = λ project multipliers step start. rw (multipliers, step, start) refl
