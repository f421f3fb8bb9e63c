use Rattle.std.proofs.Common.{refl}
use Rattle.hyd_cases_of_definitions.proofs.texts.certificates.Goals as goal
use Rattle.std.specs.Fmt.{digits}

pub returns-clause-empty : goal.returns-clause-empty
unfolding digits
returns-clause-empty c = refl

pub returns-clause-heads : goal.returns-clause-heads
unfolding digits
returns-clause-heads c = refl

pub returns-clause-tank : goal.returns-clause-tank
unfolding digits
returns-clause-tank c = refl
