use Rattle.std.proofs.Common.{refl}
use Rattle.hyd_cases_of_definitions.proofs.flows_tanks_and_run_start.tanks.Goals as goal

pub returns-clause-heads : goal.returns-clause-heads
returns-clause-heads c = λ a b first second. rw (first, second) refl

pub returns-clause-states : goal.returns-clause-states
returns-clause-states c = λ a b a_min a_max b_min b_max. rw (a_max, b_max, b_min) refl
