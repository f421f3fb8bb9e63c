use Rattle.std.proofs.Common.{ap}
use Rattle.hyd_cases_of_runs.proofs.clauses.times.Goals as goal
use Rattle.hyd_cases_of_runs.proofs.TwoTankTownAsOneValue.{town_is}
use Rattle.std.specs.Prelude.{pos, [], ◌∷◌, map}
use Rattle.hyd_spec.specs.ProgramTypes.{Less, NotMore, More, NotLess, Equal, Unequal, Time}
use Rattle.hyd_cases_of_runs.specs.TwoTankTown.{amount}
use Rattle.hyd_cases_of_runs.specs.TwoTankTownPeriods.{standing_at_start}
use Rattle.hyd_cases_of_runs.specs.Clauses.{town_truth}

pub returns-clause-less : goal.returns-clause-less
returns-clause-less c = λ project town. ap (λ project. map (λ seconds. town_truth project standing_at_start seconds
    Time Less (amount (pos 7200))) (7199 ∷ 7200 ∷ 7201 ∷ 7559 ∷ 7560 ∷ [])) (town_is town)

pub returns-clause-at_most : goal.returns-clause-at_most
returns-clause-at_most c = λ project town. ap (λ project. map (λ seconds. town_truth project standing_at_start seconds
    Time NotMore (amount (pos 7200))) (7199 ∷ 7200 ∷ 7201 ∷ 7559 ∷ 7560 ∷ [])) (town_is town)

pub returns-clause-more : goal.returns-clause-more
returns-clause-more c = λ project town. ap (λ project. map (λ seconds. town_truth project standing_at_start seconds
    Time More (amount (pos 7200))) (7199 ∷ 7200 ∷ 7201 ∷ 7559 ∷ 7560 ∷ [])) (town_is town)

pub returns-clause-at_least : goal.returns-clause-at_least
returns-clause-at_least c = λ project town. ap (λ project. map (λ seconds. town_truth project standing_at_start
    seconds Time NotLess (amount (pos 7200))) (7199 ∷ 7200 ∷ 7201 ∷ 7559 ∷ 7560 ∷ [])) (town_is town)

pub returns-clause-equal : goal.returns-clause-equal
returns-clause-equal c = λ project town. ap (λ project. map (λ seconds. town_truth project standing_at_start seconds
    Time Equal (amount (pos 7200))) (7199 ∷ 7200 ∷ 7201 ∷ 7559 ∷ 7560 ∷ [])) (town_is town)

pub returns-clause-unequal : goal.returns-clause-unequal
returns-clause-unequal c = λ project town. ap (λ project. map (λ seconds. town_truth project standing_at_start seconds
    Time Unequal (amount (pos 7200))) (7199 ∷ 7200 ∷ 7201 ∷ 7559 ∷ 7560 ∷ [])) (town_is town)

pub returns-clause-equal_start : goal.returns-clause-equal_start
returns-clause-equal_start c = λ project town. ap (λ project. map (λ seconds. town_truth project standing_at_start
    seconds Time Equal (amount (pos 0))) (0 ∷ 1 ∷ 359 ∷ 360 ∷ [])) (town_is town)

pub returns-clause-unequal_start : goal.returns-clause-unequal_start
returns-clause-unequal_start c = λ project town. ap (λ project. map (λ seconds. town_truth project standing_at_start
    seconds Time Unequal (amount (pos 0))) (0 ∷ 1 ∷ 359 ∷ 360 ∷ [])) (town_is town)
