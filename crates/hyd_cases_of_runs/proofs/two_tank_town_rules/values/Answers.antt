use Rattle.std.proofs.Common.{ap}
use Rattle.hyd_cases_of_runs.proofs.two_tank_town_rules.values.Goals as goal
use Rattle.hyd_cases_of_runs.proofs.TwoTankTownAsOneValue.{town_is}
use Rattle.hyd_spec.specs.Rules.{rule_values}
use Rattle.hyd_cases_of_runs.specs.TwoTankTownReadings.{readings_none, readings_three, readings_edges}
use Rattle.hyd_cases_of_runs.specs.TwoTankTownReadings.{readings_past_edges}

pub returns-clause-none : goal.returns-clause-none
returns-clause-none c = λ project town. ap (λ project. rule_values project 1 7560 readings_none) (town_is town)

pub returns-clause-three : goal.returns-clause-three
returns-clause-three c = λ project town. ap (λ project. rule_values project 1 8640 readings_three) (town_is town)

pub returns-clause-edges : goal.returns-clause-edges
returns-clause-edges c = λ project town. ap (λ project. rule_values project 1 8640 readings_edges) (town_is town)

pub returns-clause-past_edges : goal.returns-clause-past_edges
returns-clause-past_edges c = λ project town. ap (λ project. rule_values project 1 8640 readings_past_edges)
    (town_is town)
