use Rattle.std.proofs.Common.{refl}
use Rattle.hyd_cases_of_definitions.proofs.flows_tanks_and_run_start.start.Goals as goal

pub returns-clause-standing : goal.returns-clause-standing
returns-clause-standing c = λ project a b tanks links a_initial b_initial a_min a_max b_min b_max a_shape b_shape.
    rw (tanks, links, a_shape, b_shape, a_initial, b_initial, a_max, a_min, b_max, b_min) refl

pub returns-clause-levels : goal.returns-clause-levels
returns-clause-levels c = λ project a b tanks a_initial b_initial. rw (tanks, a_initial, b_initial) refl
