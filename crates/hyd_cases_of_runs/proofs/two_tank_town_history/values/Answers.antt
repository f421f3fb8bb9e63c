use Rattle.std.proofs.Common.{ap}
use Rattle.hyd_cases_of_runs.proofs.two_tank_town_history.values.Goals as goal
use Rattle.hyd_cases_of_runs.proofs.TwoTankTownAsOneValue.{town_is}
use Rattle.std.specs.Prelude.{[], ◌∷◌, map}
use Rattle.hyd_spec.specs.PeriodLength.{values_at}
use Rattle.hyd_cases_of_runs.specs.TwoTankTownHistory.{period_at_two, period_when_full}

pub returns-clause-at_two : goal.returns-clause-at_two
returns-clause-at_two c = λ project town. ap (λ project. map (values_at project 1000 period_at_two)
    (7200 ∷ 7260 ∷ 7313 ∷ [])) (town_is town)

pub returns-clause-when_full : goal.returns-clause-when_full
returns-clause-when_full c = λ project town. ap (λ project. map (values_at project 1000 period_when_full)
    (7560 ∷ 8280 ∷ 8640 ∷ 9000 ∷ [])) (town_is town)
