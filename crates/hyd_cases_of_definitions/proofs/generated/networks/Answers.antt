use Rattle.std.proofs.Common.{refl}
use Rattle.hyd_cases_of_definitions.proofs.generated.networks.Goals as goal
use Rattle.std.specs.Fmt.{digits}

pub returns-clause-drawn : goal.returns-clause-drawn
returns-clause-drawn c = refl

pub returns-clause-demands : goal.returns-clause-demands
returns-clause-demands c = refl

pub returns-clause-row_ends : goal.returns-clause-row_ends
unfolding digits
returns-clause-row_ends c = refl

pub returns-clause-last : goal.returns-clause-last
returns-clause-last c = refl

pub returns-clause-text : goal.returns-clause-text
unfolding digits
returns-clause-text c = refl
