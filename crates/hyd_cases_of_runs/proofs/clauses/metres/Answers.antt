use Rattle.std.proofs.Common.{ap}
use Rattle.hyd_cases_of_runs.proofs.clauses.metres.Goals as goal
use Rattle.hyd_cases_of_runs.proofs.TwoTankTownAsOneValue.{town_is}
use Rattle.std.specs.Prelude.{map}
use Rattle.hyd_spec.specs.ProgramTypes.{Less, NotMore, More, NotLess, Pressure}
use Rattle.hyd_cases_of_runs.specs.TwoTankTownPeriods.{standing_at_two}
use Rattle.hyd_cases_of_runs.specs.Clauses.{truth_at_two, town_row, metres_34_9923185, heads_about_34_9923185}

pub returns-clause-less : goal.returns-clause-less
returns-clause-less c = λ project town. ap (λ project. map (λ heads. truth_at_two project standing_at_two
    (town_row heads) (Pressure 0) Less metres_34_9923185) heads_about_34_9923185) (town_is town)

pub returns-clause-at_most : goal.returns-clause-at_most
returns-clause-at_most c = λ project town. ap (λ project. map (λ heads. truth_at_two project standing_at_two
    (town_row heads) (Pressure 0) NotMore metres_34_9923185) heads_about_34_9923185) (town_is town)

pub returns-clause-more : goal.returns-clause-more
returns-clause-more c = λ project town. ap (λ project. map (λ heads. truth_at_two project standing_at_two
    (town_row heads) (Pressure 0) More metres_34_9923185) heads_about_34_9923185) (town_is town)

pub returns-clause-at_least : goal.returns-clause-at_least
returns-clause-at_least c = λ project town. ap (λ project. map (λ heads. truth_at_two project standing_at_two
    (town_row heads) (Pressure 0) NotLess metres_34_9923185) heads_about_34_9923185) (town_is town)
