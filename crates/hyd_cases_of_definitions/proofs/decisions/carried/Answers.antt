use Rattle.std.proofs.Common.{refl}
use Rattle.hyd_cases_of_definitions.proofs.decisions.carried.Goals as goal

pub returns : goal.returns
returns c = λ project bottom initial diameter junctions reservoirs tanks. rw (tanks, junctions, reservoirs) refl
