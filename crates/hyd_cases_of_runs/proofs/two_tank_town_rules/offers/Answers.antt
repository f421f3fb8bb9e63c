use Rattle.std.proofs.Common.{ap}
use Rattle.hyd_cases_of_runs.proofs.two_tank_town_rules.offers.Goals as goal
use Rattle.hyd_cases_of_runs.proofs.TwoTankTownAsOneValue.{town_is}
use Rattle.std.specs.Prelude.{true, false, [], ◌∷◌}
use Rattle.hyd_spec.specs.Rules.{offers_from}

pub returns-clause-three : goal.returns-clause-three
returns-clause-three c = λ project town. ap (λ project. offers_from 0 project.rules.list (true ∷ true ∷ false ∷ false
    ∷ [])) (town_is town)

pub returns-clause-all : goal.returns-clause-all
returns-clause-all c = λ project town. ap (λ project. offers_from 0 project.rules.list (true ∷ true ∷ true ∷ true
    ∷ [])) (town_is town)

pub returns-clause-none : goal.returns-clause-none
returns-clause-none c = λ project town. ap (λ project. offers_from 0 project.rules.list (false ∷ false ∷ false ∷ false
    ∷ [])) (town_is town)
