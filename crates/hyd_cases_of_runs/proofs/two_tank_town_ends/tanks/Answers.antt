use Rattle.std.proofs.Common.{ap}
use Rattle.hyd_cases_of_runs.proofs.two_tank_town_ends.tanks.Goals as goal
use Rattle.hyd_cases_of_runs.proofs.TwoTankTownAsOneValue.{town_is}
use Rattle.hyd_spec_certificates.specs.Decided.{carried_at}
use Rattle.hyd_spec_certificates.specs.EndsOfPeriods.{tank_events}
use Rattle.hyd_cases_of_runs.specs.TwoTankTownPeriods.{standing_at_two, standing_when_full, grid_at_two, grid_when_full}
use Rattle.hyd_cases_of_runs.specs.TwoTankTownPeriods.{row_at_two, row_when_full}

pub returns-clause-at_two_112 : goal.returns-clause-at_two_112
returns-clause-at_two_112 c = λ project town. ap (λ project. tank_events 0 project.tanks.list standing_at_two.tanks
    (carried_at project grid_at_two standing_at_two row_at_two 112)) (town_is town)

pub returns-clause-at_two_113 : goal.returns-clause-at_two_113
returns-clause-at_two_113 c = λ project town. ap (λ project. tank_events 0 project.tanks.list standing_at_two.tanks
    (carried_at project grid_at_two standing_at_two row_at_two 113)) (town_is town)

pub returns-clause-when_full_1327 : goal.returns-clause-when_full_1327
returns-clause-when_full_1327 c = λ project town. ap (λ project. tank_events 0 project.tanks.list
    standing_when_full.tanks (carried_at project grid_when_full standing_when_full row_when_full 1327)) (town_is town)
