use Rattle.hyd_cases_of_runs.proofs.VillageRefusals.{rule_open, event_open, tank_open, control_open}
use Rattle.hyd_cases_of_runs.proofs.refusals.matters.Goals as goal

pub returns-clause-rule : goal.returns-clause-rule
returns-clause-rule c = rule_open

pub returns-clause-event : goal.returns-clause-event
returns-clause-event c = event_open

pub returns-clause-tank : goal.returns-clause-tank
returns-clause-tank c = tank_open

pub returns-clause-control : goal.returns-clause-control
returns-clause-control c = control_open
