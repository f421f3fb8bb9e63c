use Rattle.std.proofs.Common.{refl, ap}
use Rattle.hyd_cases_of_runs.proofs.two_tank_town_ends.boxes.Goals as goal
use Rattle.hyd_cases_of_runs.proofs.TwoTankTownAsOneValue.{town_is}
use Rattle.hyd_spec_certificates.specs.Decided.{inflow_boxes}
use Rattle.hyd_cases_of_runs.specs.TwoTankTownPeriods.{grid_at_two, grid_when_full, row_at_two, row_when_full}

pub returns-clause-flows_at_two : goal.returns-clause-flows_at_two
returns-clause-flows_at_two c = refl

pub returns-clause-inflows_at_two : goal.returns-clause-inflows_at_two
returns-clause-inflows_at_two c = λ project town. ap (λ project. inflow_boxes project grid_at_two row_at_two)
    (town_is town)

pub returns-clause-flows_when_full : goal.returns-clause-flows_when_full
returns-clause-flows_when_full c = refl

pub returns-clause-inflows_when_full : goal.returns-clause-inflows_when_full
returns-clause-inflows_when_full c = λ project town. ap (λ project. inflow_boxes project grid_when_full row_when_full)
    (town_is town)
