use Rattle.std.proofs.Common.{refl}
use Rattle.hyd_cases_of_definitions.proofs.statuses_events_tank_laws_and_clauses.statuses.Goals as goal

pub returns-clause-drives : goal.returns-clause-drives
returns-clause-drives c = refl

pub returns-clause-settings : goal.returns-clause-settings
returns-clause-settings c = refl

pub returns-clause-closed : goal.returns-clause-closed
returns-clause-closed c = refl

pub returns-clause-open : goal.returns-clause-open
returns-clause-open c = refl

pub returns-clause-throttled : goal.returns-clause-throttled
returns-clause-throttled c = refl

pub returns-clause-check_valve : goal.returns-clause-check_valve
returns-clause-check_valve c = λ capacity. refl

pub returns-clause-flow_control : goal.returns-clause-flow_control
returns-clause-flow_control c = refl

pub returns-clause-pump_given : goal.returns-clause-pump_given
returns-clause-pump_given c = λ capacity shutoff head nano. rw nano refl

pub returns-clause-pump_four_thirds : goal.returns-clause-pump_four_thirds
returns-clause-pump_four_thirds c = λ capacity shutoff head nano. rw nano refl
