use Rattle.std.proofs.Common.{refl}
use Rattle.hyd_cases_of_definitions.proofs.scales_and_patterns.demands.Goals as goal

pub returns-clause-own : goal.returns-clause-own
returns-clause-own c = λ project category multipliers step start multiplier base pattern default.
    rw (base, pattern, multiplier, step, start, multipliers) refl

pub returns-clause-default : goal.returns-clause-default
returns-clause-default c = λ project category multipliers step start multiplier base pattern default.
    rw (base, pattern, default, multiplier, step, start, multipliers) refl

pub returns-clause-none : goal.returns-clause-none
returns-clause-none c = λ project category multipliers step start multiplier base pattern default.
    rw (base, pattern, default, multiplier) refl
