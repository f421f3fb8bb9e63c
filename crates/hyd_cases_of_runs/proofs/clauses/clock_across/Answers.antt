use Rattle.std.proofs.Common.{ap}
use Rattle.hyd_cases_of_runs.proofs.clauses.clock_across.Goals as goal
use Rattle.hyd_cases_of_runs.proofs.TwoTankTownAsOneValue.{town_is}
use Rattle.std.specs.Prelude.{pos, [], ◌∷◌, map}
use Rattle.hyd_spec.specs.ProgramTypes.{Less, NotMore, More, NotLess, Equal, Unequal, Clock}
use Rattle.hyd_cases_of_runs.specs.TwoTankTown.{amount}
use Rattle.hyd_cases_of_runs.specs.TwoTankTownPeriods.{standing_at_start}
use Rattle.hyd_cases_of_runs.specs.Clauses.{town_truth}

pub returns-clause-less : goal.returns-clause-less
returns-clause-less c = λ project town. ap (λ project. map (λ seconds. town_truth project standing_at_start seconds
    Clock Less (amount (pos 86390))) (3589 ∷ 3590 ∷ 3599 ∷ 3600 ∷ 3949 ∷ 3950 ∷ [])) (town_is town)

pub returns-clause-at_most : goal.returns-clause-at_most
returns-clause-at_most c = λ project town. ap (λ project. map (λ seconds. town_truth project standing_at_start seconds
    Clock NotMore (amount (pos 86390))) (3589 ∷ 3590 ∷ 3599 ∷ 3600 ∷ 3949 ∷ 3950 ∷ [])) (town_is town)

pub returns-clause-more : goal.returns-clause-more
returns-clause-more c = λ project town. ap (λ project. map (λ seconds. town_truth project standing_at_start seconds
    Clock More (amount (pos 86390))) (3589 ∷ 3590 ∷ 3599 ∷ 3600 ∷ 3949 ∷ 3950 ∷ [])) (town_is town)

pub returns-clause-at_least : goal.returns-clause-at_least
returns-clause-at_least c = λ project town. ap (λ project. map (λ seconds. town_truth project standing_at_start
    seconds Clock NotLess (amount (pos 86390))) (3589 ∷ 3590 ∷ 3599 ∷ 3600 ∷ 3949 ∷ 3950 ∷ [])) (town_is town)

pub returns-clause-equal : goal.returns-clause-equal
returns-clause-equal c = λ project town. ap (λ project. map (λ seconds. town_truth project standing_at_start seconds
    Clock Equal (amount (pos 86390))) (3589 ∷ 3590 ∷ 3599 ∷ 3600 ∷ 3949 ∷ 3950 ∷ [])) (town_is town)

pub returns-clause-unequal : goal.returns-clause-unequal
returns-clause-unequal c = λ project town. ap (λ project. map (λ seconds. town_truth project standing_at_start seconds
    Clock Unequal (amount (pos 86390))) (3589 ∷ 3590 ∷ 3599 ∷ 3600 ∷ 3949 ∷ 3950 ∷ [])) (town_is town)
