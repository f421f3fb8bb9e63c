use Rattle.std.proofs.Common.{ap}
use Rattle.hyd_cases_of_runs.proofs.two_tank_town_rules.states.Goals as goal
use Rattle.hyd_cases_of_runs.proofs.TwoTankTownAsOneValue.{town_is}
use Rattle.std.specs.Prelude.{map}
use Rattle.hyd_spec_certificates.specs.ThreeValuedLogic.{is_yes}
use Rattle.hyd_spec.specs.Rules.{acted}
use Rattle.hyd_spec_certificates.specs.Decided.{links_at, rule_truths}
use Rattle.hyd_cases_of_runs.specs.TwoTankTownPeriods.{standing_when_full, grid_when_full, row_when_full}

pub returns-clause-when_full_247 : goal.returns-clause-when_full_247
returns-clause-when_full_247 c = λ project town. ap (λ project. acted project
    (map is_yes (rule_truths project grid_when_full standing_when_full row_when_full 247))
    (links_at project standing_when_full)) (town_is town)

pub returns-clause-when_full_1327 : goal.returns-clause-when_full_1327
returns-clause-when_full_1327 c = λ project town. ap (λ project. acted project
    (map is_yes (rule_truths project grid_when_full standing_when_full row_when_full 1327))
    (links_at project standing_when_full)) (town_is town)
