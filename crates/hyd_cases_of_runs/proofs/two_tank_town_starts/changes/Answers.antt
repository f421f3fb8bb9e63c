use Rattle.std.proofs.Common.{ap}
use Rattle.hyd_cases_of_runs.proofs.two_tank_town_starts.changes.Goals as goal
use Rattle.hyd_cases_of_runs.proofs.TwoTankTownAsOneValue.{town_is}
use Rattle.hyd_spec_certificates.specs.Decided.{acts_on}
use Rattle.hyd_spec_certificates.specs.ChangesAtStart.{start_changes}
use Rattle.hyd_cases_of_runs.specs.TwoTankTownPeriods.{standing_at_start, standing_at_one, standing_at_two}
use Rattle.hyd_cases_of_runs.specs.TwoTankTownPeriods.{standing_when_full}
use Rattle.hyd_cases_of_runs.specs.TwoTankTownPeriods.{standing_after_rules, standing_at_three}

pub returns-clause-at_start : goal.returns-clause-at_start
returns-clause-at_start c = λ project town. ap (λ project. start_changes project 0 (acts_on standing_at_start.levels)
    standing_at_start.commanded) (town_is town)

pub returns-clause-at_one : goal.returns-clause-at_one
returns-clause-at_one c = λ project town. ap (λ project. start_changes project 3600 (acts_on standing_at_one.levels)
    standing_at_one.commanded) (town_is town)

pub returns-clause-at_two : goal.returns-clause-at_two
returns-clause-at_two c = λ project town. ap (λ project. start_changes project 7200 (acts_on standing_at_two.levels)
    standing_at_two.commanded) (town_is town)

pub returns-clause-when_full : goal.returns-clause-when_full
returns-clause-when_full c = λ project town. ap (λ project. start_changes project 7313
    (acts_on standing_when_full.levels) standing_when_full.commanded) (town_is town)

pub returns-clause-after_rules : goal.returns-clause-after_rules
returns-clause-after_rules c = λ project town. ap (λ project. start_changes project 8640
    (acts_on standing_after_rules.levels) standing_after_rules.commanded) (town_is town)

pub returns-clause-at_three : goal.returns-clause-at_three
returns-clause-at_three c = λ project town. ap (λ project. start_changes project 10800
    (acts_on standing_at_three.levels) standing_at_three.commanded) (town_is town)
