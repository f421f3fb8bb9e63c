use Rattle.std.proofs.Common.{ap}
use Rattle.hyd_cases_of_runs.proofs.two_tank_town_ends.grids.Goals as goal
use Rattle.hyd_cases_of_runs.proofs.TwoTankTownAsOneValue.{town_is}
use Rattle.std.specs.Prelude.{map}
use Rattle.hyd_spec.specs.DemandsHeadsAndPumpLifts.{demand_of, reservoir_head}
use Rattle.hyd_spec_certificates.specs.PeriodNetwork.{grid_links, tank_intervals}
use Rattle.hyd_spec_certificates.specs.Decided.{links_at}
use Rattle.hyd_cases_of_runs.specs.TwoTankTownPeriods.{standing_at_two, standing_when_full}

pub returns-clause-links_at_two : goal.returns-clause-links_at_two
returns-clause-links_at_two c = λ project town. ap (λ project. grid_links project standing_at_two.tanks
    project.links.list (links_at project standing_at_two)) (town_is town)

pub returns-clause-tanks_at_two : goal.returns-clause-tanks_at_two
returns-clause-tanks_at_two c = λ project town. ap (λ project. tank_intervals project.tanks.list
    standing_at_two.levels) (town_is town)

pub returns-clause-reservoirs_at_two : goal.returns-clause-reservoirs_at_two
returns-clause-reservoirs_at_two c = λ project town. ap (λ project. map (reservoir_head project 7200)
    project.reservoirs.list) (town_is town)

pub returns-clause-demands_at_two : goal.returns-clause-demands_at_two
returns-clause-demands_at_two c = λ project town. ap (λ project. map (demand_of project 7200) project.junctions.list)
    (town_is town)

pub returns-clause-links_when_full : goal.returns-clause-links_when_full
returns-clause-links_when_full c = λ project town. ap (λ project. grid_links project standing_when_full.tanks
    project.links.list (links_at project standing_when_full)) (town_is town)

pub returns-clause-tanks_when_full : goal.returns-clause-tanks_when_full
returns-clause-tanks_when_full c = λ project town. ap (λ project. tank_intervals project.tanks.list
    standing_when_full.levels) (town_is town)

pub returns-clause-reservoirs_when_full : goal.returns-clause-reservoirs_when_full
returns-clause-reservoirs_when_full c = λ project town. ap (λ project. map (reservoir_head project 7313)
    project.reservoirs.list) (town_is town)

pub returns-clause-demands_when_full : goal.returns-clause-demands_when_full
returns-clause-demands_when_full c = λ project town. ap (λ project. map (demand_of project 7313)
    project.junctions.list) (town_is town)
