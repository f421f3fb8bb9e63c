use Rattle.std.proofs.Common.{ap}
use Rattle.hyd_cases_of_runs.proofs.two_tank_town_history.readings.Goals as goal
use Rattle.hyd_cases_of_runs.proofs.TwoTankTownAsOneValue.{town_is}
use Rattle.hyd_spec.specs.PeriodLength.{readings_after}
use Rattle.hyd_cases_of_runs.specs.TwoTankTownHistory.{period_at_two, period_when_full}

pub returns-clause-at_two_60 : goal.returns-clause-at_two_60
returns-clause-at_two_60 c = λ project town. ap (λ project. readings_after project 1000 period_at_two 60) (town_is town)

pub returns-clause-at_two_113 : goal.returns-clause-at_two_113
returns-clause-at_two_113 c = λ project town. ap (λ project. readings_after project 1000 period_at_two 113)
    (town_is town)

pub returns-clause-when_full_247 : goal.returns-clause-when_full_247
returns-clause-when_full_247 c = λ project town. ap (λ project. readings_after project 1000 period_when_full 247)
    (town_is town)
