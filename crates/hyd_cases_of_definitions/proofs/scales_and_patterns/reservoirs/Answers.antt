use Rattle.std.proofs.Common.{refl}
use Rattle.hyd_cases_of_definitions.proofs.scales_and_patterns.reservoirs.Goals as goal

pub returns-clause-patterned : goal.returns-clause-patterned
returns-clause-patterned c = λ project reservoir multipliers step start head pattern.
    rw (head, pattern, step, start, multipliers) refl

pub returns-clause-constant : goal.returns-clause-constant
returns-clause-constant c = λ project reservoir head pattern. rw (head, pattern) refl
