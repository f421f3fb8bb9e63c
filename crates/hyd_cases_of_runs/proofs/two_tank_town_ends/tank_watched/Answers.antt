use Rattle.std.proofs.Common.{ap}
use Rattle.hyd_cases_of_runs.proofs.two_tank_town_ends.tank_watched.Goals as goal
use Rattle.hyd_cases_of_runs.proofs.TwoTankTownAsOneValue.{town_is}
use Rattle.hyd_spec_certificates.specs.Decided.{tank_watches}
use Rattle.hyd_cases_of_runs.specs.TwoTankTownPeriods.{standing_at_start, standing_at_two, standing_when_full}

pub returns-clause-at_start : goal.returns-clause-at_start
returns-clause-at_start c = λ project town. ap (λ project. tank_watches 0 project.tanks.list standing_at_start.tanks)
    (town_is town)

pub returns-clause-at_two : goal.returns-clause-at_two
returns-clause-at_two c = λ project town. ap (λ project. tank_watches 0 project.tanks.list standing_at_two.tanks)
    (town_is town)

pub returns-clause-when_full : goal.returns-clause-when_full
returns-clause-when_full c = λ project town. ap (λ project. tank_watches 0 project.tanks.list
    standing_when_full.tanks) (town_is town)
