use Rattle.std.proofs.Common.{refl, ap}
use Rattle.hyd_cases_of_runs.proofs.two_tank_town_history.inflows.Goals as goal
use Rattle.hyd_cases_of_runs.proofs.TwoTankTownAsOneValue.{town_is}
use Rattle.std.specs.Prelude.{[], ◌∷◌, map}
use Rattle.hyd_spec.specs.Tank.{tank_inflow}
use Rattle.hyd_cases_of_runs.specs.TwoTankTownHistory.{period_at_two, period_when_full}

pub returns-clause-inflows_at_two : goal.returns-clause-inflows_at_two
returns-clause-inflows_at_two c = λ project town. ap (λ project. map
    (λ tank. tank_inflow project tank period_at_two.assignment.flows) (0 ∷ 1 ∷ [])) (town_is town)

pub returns-clause-levels_at_two : goal.returns-clause-levels_at_two
returns-clause-levels_at_two c = refl

pub returns-clause-inflows_when_full : goal.returns-clause-inflows_when_full
returns-clause-inflows_when_full c = λ project town. ap (λ project. map
    (λ tank. tank_inflow project tank period_when_full.assignment.flows) (0 ∷ 1 ∷ [])) (town_is town)

pub returns-clause-levels_when_full : goal.returns-clause-levels_when_full
returns-clause-levels_when_full c = refl
