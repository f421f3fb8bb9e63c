use Rattle.std.proofs.Common.{ap}
use Rattle.hyd_cases_of_runs.proofs.two_tank_town_rules.changed.Goals as goal
use Rattle.hyd_cases_of_runs.proofs.TwoTankTownAsOneValue.{town_is}
use Rattle.std.specs.Prelude.{true, false, [], ◌∷◌, map}
use Rattle.hyd_spec.specs.Rules.{state_of_link, change_of, rule_changes}
use Rattle.hyd_spec_certificates.specs.Decided.{links_at}
use Rattle.hyd_cases_of_runs.specs.TwoTankTown.{numbers}
use Rattle.hyd_cases_of_runs.specs.TwoTankTownPeriods.{standing_when_full}

pub returns-clause-three : goal.returns-clause-three
returns-clause-three c = λ project town. ap (λ project. map (λ link. change_of project (true ∷ true ∷ false ∷ false
    ∷ []) link (state_of_link (links_at project standing_when_full) link)) numbers) (town_is town)

pub returns-clause-three_in_order : goal.returns-clause-three_in_order
returns-clause-three_in_order c = λ project town. ap (λ project. rule_changes project (true ∷ true ∷ false ∷ false
    ∷ []) (links_at project standing_when_full)) (town_is town)

pub returns-clause-all : goal.returns-clause-all
returns-clause-all c = λ project town. ap (λ project. map (λ link. change_of project (true ∷ true ∷ true ∷ true ∷ [])
    link (state_of_link (links_at project standing_when_full) link)) numbers) (town_is town)

pub returns-clause-all_in_order : goal.returns-clause-all_in_order
returns-clause-all_in_order c = λ project town. ap (λ project. rule_changes project (true ∷ true ∷ true ∷ true ∷ [])
    (links_at project standing_when_full)) (town_is town)

pub returns-clause-none : goal.returns-clause-none
returns-clause-none c = λ project town. ap (λ project. map (λ link. change_of project (false ∷ false ∷ false ∷ false
    ∷ []) link (state_of_link (links_at project standing_when_full) link)) numbers) (town_is town)

pub returns-clause-none_in_order : goal.returns-clause-none_in_order
returns-clause-none_in_order c = λ project town. ap (λ project. rule_changes project (false ∷ false ∷ false ∷ false
    ∷ []) (links_at project standing_when_full)) (town_is town)
