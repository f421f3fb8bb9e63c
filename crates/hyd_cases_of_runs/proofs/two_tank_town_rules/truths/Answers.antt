use Rattle.std.proofs.Common.{ap}
use Rattle.hyd_cases_of_runs.proofs.two_tank_town_rules.truths.Goals as goal
use Rattle.hyd_cases_of_runs.proofs.TwoTankTownAsOneValue.{town_is}
use Rattle.std.specs.Prelude.{[], ◌∷◌, map}
use Rattle.hyd_spec_certificates.specs.Decided.{rule_truths}
use Rattle.hyd_cases_of_runs.specs.TwoTankTownPeriods.{standing_at_two, standing_when_full, grid_at_two, grid_when_full}
use Rattle.hyd_cases_of_runs.specs.TwoTankTownPeriods.{row_at_two, row_when_full}

pub returns-clause-when_full : goal.returns-clause-when_full
returns-clause-when_full c = λ project town. ap (λ project. map (rule_truths project grid_when_full standing_when_full
    row_when_full) (247 ∷ 967 ∷ 1327 ∷ 1687 ∷ [])) (town_is town)

pub returns-clause-at_two : goal.returns-clause-at_two
returns-clause-at_two c = λ project town. ap (λ project. map (rule_truths project grid_at_two standing_at_two
    row_at_two) (0 ∷ 60 ∷ 360 ∷ [])) (town_is town)
