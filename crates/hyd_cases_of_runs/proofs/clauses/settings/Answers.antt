use Rattle.std.proofs.Common.{ap}
use Rattle.hyd_cases_of_runs.proofs.clauses.settings.Goals as goal
use Rattle.hyd_cases_of_runs.proofs.TwoTankTownAsOneValue.{town_is}
use Rattle.std.specs.Prelude.{pos, neg_ℤ, [], ◌∷◌, map}
use Rattle.hyd_spec.specs.ProgramTypes.{Less, NotMore, More, NotLess, Setting}
use Rattle.hyd_cases_of_runs.specs.TwoTankTown.{amount}
use Rattle.hyd_cases_of_runs.specs.TwoTankTownPeriods.{standing_when_full, standing_at_three}
use Rattle.hyd_cases_of_runs.specs.Clauses.{town_truth}

pub returns-clause-pump_less : goal.returns-clause-pump_less
returns-clause-pump_less c = λ project town. ap (λ project. map (λ nano. town_truth project standing_at_three 0
    (Setting 0) Less (amount nano)) (pos 899999999 ∷ pos 900000000 ∷ pos 900000001 ∷ [])) (town_is town)

pub returns-clause-pump_at_most : goal.returns-clause-pump_at_most
returns-clause-pump_at_most c = λ project town. ap (λ project. map (λ nano. town_truth project standing_at_three 0
    (Setting 0) NotMore (amount nano)) (pos 899999999 ∷ pos 900000000 ∷ pos 900000001 ∷ [])) (town_is town)

pub returns-clause-pump_more : goal.returns-clause-pump_more
returns-clause-pump_more c = λ project town. ap (λ project. map (λ nano. town_truth project standing_at_three 0
    (Setting 0) More (amount nano)) (pos 899999999 ∷ pos 900000000 ∷ pos 900000001 ∷ [])) (town_is town)

pub returns-clause-pump_at_least : goal.returns-clause-pump_at_least
returns-clause-pump_at_least c = λ project town. ap (λ project. map (λ nano. town_truth project standing_at_three 0
    (Setting 0) NotLess (amount nano)) (pos 899999999 ∷ pos 900000000 ∷ pos 900000001 ∷ [])) (town_is town)

pub returns-clause-valve_less : goal.returns-clause-valve_less
returns-clause-valve_less c = λ project town. ap (λ project. map (λ nano. town_truth project standing_at_three 0
    (Setting 1) Less (amount nano)) (pos 1399999999999 ∷ pos 1400000000000 ∷ pos 1400000000001 ∷ [])) (town_is town)

pub returns-clause-valve_at_most : goal.returns-clause-valve_at_most
returns-clause-valve_at_most c = λ project town. ap (λ project. map (λ nano. town_truth project standing_at_three 0
    (Setting 1) NotMore (amount nano)) (pos 1399999999999 ∷ pos 1400000000000 ∷ pos 1400000000001 ∷ [])) (town_is town)

pub returns-clause-valve_more : goal.returns-clause-valve_more
returns-clause-valve_more c = λ project town. ap (λ project. map (λ nano. town_truth project standing_at_three 0
    (Setting 1) More (amount nano)) (pos 1399999999999 ∷ pos 1400000000000 ∷ pos 1400000000001 ∷ [])) (town_is town)

pub returns-clause-valve_at_least : goal.returns-clause-valve_at_least
returns-clause-valve_at_least c = λ project town. ap (λ project. map (λ nano. town_truth project standing_at_three 0
    (Setting 1) NotLess (amount nano)) (pos 1399999999999 ∷ pos 1400000000000 ∷ pos 1400000000001 ∷ [])) (town_is town)

pub returns-clause-opened_less : goal.returns-clause-opened_less
returns-clause-opened_less c = λ project town. ap (λ project. map (λ nano. town_truth project standing_at_three 0
    (Setting 2) Less (amount nano)) (neg_ℤ (pos 1) ∷ pos 0 ∷ pos 1 ∷ [])) (town_is town)

pub returns-clause-opened_at_most : goal.returns-clause-opened_at_most
returns-clause-opened_at_most c = λ project town. ap (λ project. map (λ nano. town_truth project standing_at_three 0
    (Setting 2) NotMore (amount nano)) (neg_ℤ (pos 1) ∷ pos 0 ∷ pos 1 ∷ [])) (town_is town)

pub returns-clause-opened_more : goal.returns-clause-opened_more
returns-clause-opened_more c = λ project town. ap (λ project. map (λ nano. town_truth project standing_at_three 0
    (Setting 2) More (amount nano)) (neg_ℤ (pos 1) ∷ pos 0 ∷ pos 1 ∷ [])) (town_is town)

pub returns-clause-opened_at_least : goal.returns-clause-opened_at_least
returns-clause-opened_at_least c = λ project town. ap (λ project. map (λ nano. town_truth project standing_at_three 0
    (Setting 2) NotLess (amount nano)) (neg_ℤ (pos 1) ∷ pos 0 ∷ pos 1 ∷ [])) (town_is town)

pub returns-clause-unthrottled : goal.returns-clause-unthrottled
returns-clause-unthrottled c = λ project town. ap (λ project. map (λ nano. town_truth project standing_when_full 0
    (Setting 4) NotMore (amount nano)) (neg_ℤ (pos 1) ∷ pos 0 ∷ pos 1 ∷ [])) (town_is town)
