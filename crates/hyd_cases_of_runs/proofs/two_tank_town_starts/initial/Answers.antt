use Rattle.std.proofs.Common.{ap}
use Rattle.hyd_cases_of_runs.proofs.two_tank_town_starts.initial.Goals as goal
use Rattle.hyd_cases_of_runs.proofs.TwoTankTownAsOneValue.{town_is}
use Rattle.hyd_spec.specs.History.{initial_links, initial_levels}
use Rattle.hyd_spec_certificates.specs.RecordAndStanding.{initial_standing}

pub returns-clause-standing : goal.returns-clause-standing
returns-clause-standing c = λ project town. ap (λ project. initial_standing project) (town_is town)

pub returns-clause-links : goal.returns-clause-links
returns-clause-links c = λ project town. ap (λ project. initial_links project) (town_is town)

pub returns-clause-levels : goal.returns-clause-levels
returns-clause-levels c = λ project town. ap (λ project. initial_levels project 3) (town_is town)
