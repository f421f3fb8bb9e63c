use Rattle.std.proofs.Common.{ap}
use Rattle.hyd_cases_of_runs.proofs.two_tank_town_rules.measures.Goals as goal
use Rattle.hyd_cases_of_runs.proofs.TwoTankTownAsOneValue.{town_is}
use Rattle.std.specs.Prelude.{[], ◌∷◌, map}
use Rattle.hyd_spec.specs.Rules.{head_of, pressure_of, state_of_link}
use Rattle.hyd_spec_certificates.specs.Decided.{links_at}
use Rattle.hyd_cases_of_runs.specs.TwoTankTown.{numbers}
use Rattle.hyd_cases_of_runs.specs.TwoTankTownPeriods.{standing_when_full}
use Rattle.hyd_cases_of_runs.specs.TwoTankTownReadings.{readings_of_halves}

pub returns-clause-heads : goal.returns-clause-heads
returns-clause-heads c = λ project town. ap (λ project. map (head_of project 1 readings_of_halves) numbers)
    (town_is town)

pub returns-clause-pressures : goal.returns-clause-pressures
returns-clause-pressures c = λ project town. ap (λ project. map (pressure_of project 1 readings_of_halves)
    (0 ∷ 1 ∷ 3 ∷ 4 ∷ [])) (town_is town)

pub returns-clause-states : goal.returns-clause-states
returns-clause-states c = λ project town. ap (λ project. map (state_of_link (links_at project standing_when_full))
    numbers) (town_is town)
