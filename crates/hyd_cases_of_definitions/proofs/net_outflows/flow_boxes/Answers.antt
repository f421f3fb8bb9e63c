use Rattle.std.proofs.Common.{refl}
use Rattle.hyd_cases_of_definitions.proofs.net_outflows.flow_boxes.Goals as goal

pub returns-clause-from_reservoir_box : goal.returns-clause-from_reservoir_box
returns-clause-from_reservoir_box c = refl

pub returns-clause-between_box : goal.returns-clause-between_box
returns-clause-between_box c = refl

pub returns-clause-into_tank_box : goal.returns-clause-into_tank_box
returns-clause-into_tank_box c = refl

pub returns-clause-against_tank_box : goal.returns-clause-against_tank_box
returns-clause-against_tank_box c = refl

pub returns-clause-closed_box : goal.returns-clause-closed_box
returns-clause-closed_box c = refl
