use Rattle.std.proofs.Common.{refl}
use Rattle.hyd_cases_of_definitions.proofs.enclosing_functions.roots.Goals as goal
use Rattle.hyd_spec_certificates.specs.EnclosingFunctions.{root_down, root_up, greatest_root}

pub returns-clause-wholes_down : goal.returns-clause-wholes_down
unfolding root_down root_up greatest_root
returns-clause-wholes_down c = refl

pub returns-clause-wholes_up : goal.returns-clause-wholes_up
unfolding root_down root_up greatest_root
returns-clause-wholes_up c = refl

pub returns-clause-halves_down : goal.returns-clause-halves_down
unfolding root_down root_up greatest_root
returns-clause-halves_down c = refl

pub returns-clause-halves_up : goal.returns-clause-halves_up
unfolding root_down root_up greatest_root
returns-clause-halves_up c = refl

pub returns-clause-quarters_down : goal.returns-clause-quarters_down
unfolding root_down root_up greatest_root
returns-clause-quarters_down c = refl

pub returns-clause-quarters_up : goal.returns-clause-quarters_up
unfolding root_down root_up greatest_root
returns-clause-quarters_up c = refl
