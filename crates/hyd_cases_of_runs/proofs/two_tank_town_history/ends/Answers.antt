use Rattle.std.proofs.Common.{ap}
use Rattle.hyd_cases_of_runs.proofs.two_tank_town_history.ends.Goals as goal
use Rattle.hyd_cases_of_runs.proofs.TwoTankTownAsOneValue.{town_is}
use Rattle.hyd_spec.specs.History.{commanded_after}
use Rattle.hyd_cases_of_runs.specs.TwoTankTownHistory.{period_at_two, period_when_full}

pub returns-clause-at_two : goal.returns-clause-at_two
returns-clause-at_two c = λ project town. ap (λ project. commanded_after project 1000 period_at_two) (town_is town)

pub returns-clause-when_full : goal.returns-clause-when_full
returns-clause-when_full c = λ project town. ap (λ project. commanded_after project 1000 period_when_full)
    (town_is town)
