use Rattle.std.proofs.Common.{ap}
use Rattle.hyd_cases_of_runs.proofs.two_tank_town_starts.links.Goals as goal
use Rattle.hyd_cases_of_runs.proofs.TwoTankTownAsOneValue.{town_is}
use Rattle.hyd_spec_certificates.specs.Decided.{links_at}
use Rattle.hyd_cases_of_runs.specs.TwoTankTownPeriods.{standing_at_start, standing_at_one, standing_at_two}
use Rattle.hyd_cases_of_runs.specs.TwoTankTownPeriods.{standing_when_full}
use Rattle.hyd_cases_of_runs.specs.TwoTankTownPeriods.{standing_after_rules, standing_at_three}

pub returns-clause-at_start : goal.returns-clause-at_start
returns-clause-at_start c = λ project town. ap (λ project. links_at project standing_at_start) (town_is town)

pub returns-clause-at_one : goal.returns-clause-at_one
returns-clause-at_one c = λ project town. ap (λ project. links_at project standing_at_one) (town_is town)

pub returns-clause-at_two : goal.returns-clause-at_two
returns-clause-at_two c = λ project town. ap (λ project. links_at project standing_at_two) (town_is town)

pub returns-clause-when_full : goal.returns-clause-when_full
returns-clause-when_full c = λ project town. ap (λ project. links_at project standing_when_full) (town_is town)

pub returns-clause-after_rules : goal.returns-clause-after_rules
returns-clause-after_rules c = λ project town. ap (λ project. links_at project standing_after_rules) (town_is town)

pub returns-clause-at_three : goal.returns-clause-at_three
returns-clause-at_three c = λ project town. ap (λ project. links_at project standing_at_three) (town_is town)
