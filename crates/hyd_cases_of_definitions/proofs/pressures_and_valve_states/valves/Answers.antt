use Rattle.std.proofs.Common.{refl}
use Rattle.hyd_cases_of_definitions.proofs.pressures_and_valve_states.valves.Goals as goal

pub returns-clause-closed_low : goal.returns-clause-closed_low
returns-clause-closed_low c = refl

pub returns-clause-closed_high : goal.returns-clause-closed_high
returns-clause-closed_high c = refl

pub returns-clause-open_low : goal.returns-clause-open_low
returns-clause-open_low c = refl

pub returns-clause-open_high : goal.returns-clause-open_high
returns-clause-open_high c = refl

pub returns-clause-throttled_low : goal.returns-clause-throttled_low
returns-clause-throttled_low c = refl

pub returns-clause-throttled_high : goal.returns-clause-throttled_high
returns-clause-throttled_high c = refl

pub returns-clause-limited_low : goal.returns-clause-limited_low
returns-clause-limited_low c = refl

pub returns-clause-limited_high : goal.returns-clause-limited_high
returns-clause-limited_high c = refl

pub returns-clause-limit_closed_low : goal.returns-clause-limit_closed_low
returns-clause-limit_closed_low c = refl

pub returns-clause-limit_closed_high : goal.returns-clause-limit_closed_high
returns-clause-limit_closed_high c = refl
