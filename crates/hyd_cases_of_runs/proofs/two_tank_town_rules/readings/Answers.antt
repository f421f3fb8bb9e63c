use Rattle.std.proofs.Common.{ap}
use Rattle.hyd_cases_of_runs.proofs.two_tank_town_rules.readings.Goals as goal
use Rattle.hyd_cases_of_runs.proofs.TwoTankTownAsOneValue.{town_is}
use Rattle.hyd_spec_certificates.specs.Decided.{readings_below, readings_above}
use Rattle.hyd_cases_of_runs.specs.TwoTankTownPeriods.{standing_at_two, standing_when_full, grid_at_two, grid_when_full}
use Rattle.hyd_cases_of_runs.specs.TwoTankTownPeriods.{row_at_two, row_when_full}

pub returns-clause-below_at_two : goal.returns-clause-below_at_two
returns-clause-below_at_two c = λ project town. ap (λ project. readings_below project grid_at_two standing_at_two
    row_at_two 60) (town_is town)

pub returns-clause-above_at_two : goal.returns-clause-above_at_two
returns-clause-above_at_two c = λ project town. ap (λ project. readings_above project grid_at_two standing_at_two
    row_at_two 60) (town_is town)

pub returns-clause-below_when_full : goal.returns-clause-below_when_full
returns-clause-below_when_full c = λ project town. ap (λ project. readings_below project grid_when_full
    standing_when_full row_when_full 247) (town_is town)

pub returns-clause-above_when_full : goal.returns-clause-above_when_full
returns-clause-above_when_full c = λ project town. ap (λ project. readings_above project grid_when_full
    standing_when_full row_when_full 247) (town_is town)
