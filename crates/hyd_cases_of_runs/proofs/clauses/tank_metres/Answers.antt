use Rattle.std.proofs.Common.{ap}
use Rattle.hyd_cases_of_runs.proofs.clauses.tank_metres.Goals as goal
use Rattle.hyd_cases_of_runs.proofs.TwoTankTownAsOneValue.{town_is}
use Rattle.std.specs.Prelude.{map}
use Rattle.hyd_spec.specs.ProgramTypes.{Less, NotMore, More, NotLess, Pressure}
use Rattle.hyd_cases_of_runs.specs.TwoTankTownPeriods.{row_at_two}
use Rattle.hyd_cases_of_runs.specs.Clauses.{truth_at_two, town_standing, metres_4_9965, levels_about_4_9965}

pub returns-clause-less : goal.returns-clause-less
returns-clause-less c = λ project town. ap (λ project. map (λ level. truth_at_two project (town_standing level)
    row_at_two (Pressure 3) Less metres_4_9965) levels_about_4_9965) (town_is town)

pub returns-clause-at_most : goal.returns-clause-at_most
returns-clause-at_most c = λ project town. ap (λ project. map (λ level. truth_at_two project (town_standing level)
    row_at_two (Pressure 3) NotMore metres_4_9965) levels_about_4_9965) (town_is town)

pub returns-clause-more : goal.returns-clause-more
returns-clause-more c = λ project town. ap (λ project. map (λ level. truth_at_two project (town_standing level)
    row_at_two (Pressure 3) More metres_4_9965) levels_about_4_9965) (town_is town)

pub returns-clause-at_least : goal.returns-clause-at_least
returns-clause-at_least c = λ project town. ap (λ project. map (λ level. truth_at_two project (town_standing level)
    row_at_two (Pressure 3) NotLess metres_4_9965) levels_about_4_9965) (town_is town)
