use Rattle.std.proofs.Common.{refl}
use Rattle.hyd_cases_of_definitions.proofs.decisions.boxes.Goals as goal

pub returns-clause-flows : goal.returns-clause-flows
returns-clause-flows c = refl

pub returns-clause-inflow : goal.returns-clause-inflow
returns-clause-inflow c = λ project junctions reservoirs. rw (junctions, reservoirs) refl
