use Rattle.std.proofs.Common.{refl}
use Rattle.hyd_cases_of_definitions.proofs.held_junctions.flows.Goals as goal

pub returns : goal.returns
returns c = refl
