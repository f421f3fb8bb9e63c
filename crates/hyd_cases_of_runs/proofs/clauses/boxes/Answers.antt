use Rattle.std.proofs.Common.{refl, ap}
use Rattle.hyd_cases_of_runs.proofs.clauses.boxes.Goals as goal
use Rattle.hyd_cases_of_runs.proofs.HamletAsOneValue.{hamlet_is}
use Rattle.hyd_spec_certificates.specs.PeriodNetwork.{grid_links}
use Rattle.hyd_spec_certificates.specs.Decided.{links_at, inflow_boxes}
use Rattle.hyd_cases_of_runs.specs.Hamlet.{grid_at_start, row_at_start}
use Rattle.hyd_cases_of_runs.specs.Hamlet.{standing_at_start as hamlet_start}

pub returns-clause-links : goal.returns-clause-links
returns-clause-links c = λ project hamlet. ap (λ project. grid_links project hamlet_start.tanks project.links.list
    (links_at project hamlet_start)) (hamlet_is hamlet)

pub returns-clause-flows : goal.returns-clause-flows
returns-clause-flows c = refl

pub returns-clause-inflow : goal.returns-clause-inflow
returns-clause-inflow c = λ project hamlet. ap (λ project. inflow_boxes project grid_at_start row_at_start)
    (hamlet_is hamlet)
