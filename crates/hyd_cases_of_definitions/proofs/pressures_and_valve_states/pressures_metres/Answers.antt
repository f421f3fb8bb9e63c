use Rattle.std.proofs.Common.{refl}
use Rattle.hyd_cases_of_definitions.proofs.pressures_and_valve_states.pressures_metres.Goals as goal

pub returns-clause-minimum : goal.returns-clause-minimum
returns-clause-minimum c = λ project unit least. rw (unit, least) refl

pub returns-clause-required : goal.returns-clause-required
returns-clause-required c = λ project unit whole. rw (unit, whole) refl
