use Rattle.std.proofs.Common.{ap}
use Rattle.hyd_cases_of_runs.proofs.two_tank_town_history.exact.Goals as goal
use Rattle.hyd_cases_of_runs.proofs.TwoTankTownAsOneValue.{town_is}
use Rattle.std.specs.Prelude.{[], ◌∷◌}
use Rattle.hyd_spec.specs.PeriodLength.{exact_after}
use Rattle.hyd_cases_of_runs.specs.TwoTankTown.{north, south}
use Rattle.hyd_cases_of_runs.specs.TwoTankTownHistory.{period_at_two, period_when_full}

pub returns-clause-at_two_112 : goal.returns-clause-at_two_112
returns-clause-at_two_112 c = λ project town. ap (λ project. exact_after project period_at_two 0 north 112
    ∷ exact_after project period_at_two 1 south 112 ∷ []) (town_is town)

pub returns-clause-at_two_113 : goal.returns-clause-at_two_113
returns-clause-at_two_113 c = λ project town. ap (λ project. exact_after project period_at_two 0 north 113
    ∷ exact_after project period_at_two 1 south 113 ∷ []) (town_is town)

pub returns-clause-when_full_247 : goal.returns-clause-when_full_247
returns-clause-when_full_247 c = λ project town. ap (λ project. exact_after project period_when_full 0 north 247
    ∷ exact_after project period_when_full 1 south 247 ∷ []) (town_is town)

pub returns-clause-when_full_1327 : goal.returns-clause-when_full_1327
returns-clause-when_full_1327 c = λ project town. ap (λ project. exact_after project period_when_full 0 north 1327
    ∷ exact_after project period_when_full 1 south 1327 ∷ []) (town_is town)
