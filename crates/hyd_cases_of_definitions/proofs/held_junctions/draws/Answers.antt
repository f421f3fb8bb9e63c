use Rattle.std.proofs.Common.{refl}
use Rattle.hyd_cases_of_definitions.proofs.held_junctions.draws.Goals as goal

pub returns-clause-upper_first : goal.returns-clause-upper_first
returns-clause-upper_first c = refl

pub returns-clause-upper_second : goal.returns-clause-upper_second
returns-clause-upper_second c = refl

pub returns-clause-lower_first : goal.returns-clause-lower_first
returns-clause-lower_first c = refl

pub returns-clause-lower_second : goal.returns-clause-lower_second
returns-clause-lower_second c = refl
