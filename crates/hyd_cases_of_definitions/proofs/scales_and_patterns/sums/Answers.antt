use Rattle.std.proofs.Common.{refl}
use Rattle.hyd_cases_of_definitions.proofs.scales_and_patterns.sums.Goals as goal

pub returns : goal.returns
returns c = λ project junction multipliers step start multiplier default categories.
    rw (categories, default, multiplier, step, start, multipliers) refl
