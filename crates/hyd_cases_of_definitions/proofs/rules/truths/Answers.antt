use Rattle.std.proofs.Common.{refl}
use Rattle.hyd_cases_of_definitions.proofs.rules.truths.Goals as goal

pub returns-clause-ends : goal.returns-clause-ends
returns-clause-ends c = refl

pub returns-clause-other_ends : goal.returns-clause-other_ends
returns-clause-other_ends c = refl

pub returns-clause-some : goal.returns-clause-some
returns-clause-some c = refl

pub returns-clause-all : goal.returns-clause-all
returns-clause-all c = refl
