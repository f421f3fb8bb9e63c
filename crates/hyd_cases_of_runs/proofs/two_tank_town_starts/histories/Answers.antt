use Rattle.std.proofs.Common.{ap}
use Rattle.hyd_cases_of_runs.proofs.two_tank_town_starts.histories.Goals as goal
use Rattle.hyd_cases_of_runs.proofs.TwoTankTownAsOneValue.{town_is}
use Rattle.std.specs.Prelude.{pos, [], ◌∷◌}
use Rattle.hyd_spec.specs.PumpPatternsAndSimpleControls.{started, acts_at}
use Rattle.hyd_cases_of_runs.specs.TwoTankTownPeriods.{standing_when_full}

pub returns-clause-reached : goal.returns-clause-reached
returns-clause-reached c = λ project town. ap (λ project. started project 7313
    (acts_at 3 (pos 150000000000000 ∷ pos 45000000000000 ∷ [])) standing_when_full.commanded) (town_is town)

pub returns-clause-not_reached : goal.returns-clause-not_reached
returns-clause-not_reached c = λ project town. ap (λ project. started project 7313
    (acts_at 3 (pos 149999999999999 ∷ pos 45000000000001 ∷ [])) standing_when_full.commanded) (town_is town)

pub returns-clause-only_below : goal.returns-clause-only_below
returns-clause-only_below c = λ project town. ap (λ project. started project 7313
    (acts_at 3 (pos 149999999999999 ∷ pos 45000000000000 ∷ [])) standing_when_full.commanded) (town_is town)
