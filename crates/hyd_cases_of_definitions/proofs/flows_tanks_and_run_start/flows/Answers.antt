use Rattle.std.proofs.Common.{refl}
use Rattle.hyd_cases_of_definitions.proofs.flows_tanks_and_run_start.flows.Goals as goal

pub returns-clause-outflow : goal.returns-clause-outflow
returns-clause-outflow c = refl

pub returns-clause-inflow : goal.returns-clause-inflow
returns-clause-inflow c = λ project links junctions reservoirs. rw (links, junctions, reservoirs) refl
