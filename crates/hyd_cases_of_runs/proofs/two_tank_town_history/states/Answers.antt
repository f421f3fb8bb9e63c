use Rattle.std.proofs.Common.{ap}
use Rattle.hyd_cases_of_runs.proofs.two_tank_town_history.states.Goals as goal
use Rattle.hyd_cases_of_runs.proofs.TwoTankTownAsOneValue.{town_is}
use Rattle.hyd_spec.specs.PumpPatternsAndSimpleControls.{started, acts_at}
use Rattle.hyd_spec.specs.History.{tank_states}
use Rattle.hyd_cases_of_runs.specs.TwoTankTownPeriods.{standing_at_two, standing_when_full}
use Rattle.hyd_cases_of_runs.specs.TwoTankTownHistory.{period_at_two, period_when_full}

pub returns-clause-tanks_at_two : goal.returns-clause-tanks_at_two
returns-clause-tanks_at_two c = λ project town. ap (λ project. tank_states 1000 project.tanks.list
    period_at_two.levels) (town_is town)

pub returns-clause-links_at_two : goal.returns-clause-links_at_two
returns-clause-links_at_two c = λ project town. ap (λ project. started project 7200
    (acts_at 1000 period_at_two.levels) standing_at_two.commanded) (town_is town)

pub returns-clause-tanks_when_full : goal.returns-clause-tanks_when_full
returns-clause-tanks_when_full c = λ project town. ap (λ project. tank_states 1000 project.tanks.list
    period_when_full.levels) (town_is town)

pub returns-clause-links_when_full : goal.returns-clause-links_when_full
returns-clause-links_when_full c = λ project town. ap (λ project. started project 7313
    (acts_at 1000 period_when_full.levels) standing_when_full.commanded) (town_is town)
