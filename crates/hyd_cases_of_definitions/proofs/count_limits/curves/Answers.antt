use Rattle.std.proofs.Common.{refl}
use Rattle.hyd_cases_of_definitions.proofs.count_limits.curves.Goals as goal

pub returns-clause-most : goal.returns-clause-most
returns-clause-most c = refl

pub returns-clause-more : goal.returns-clause-more
returns-clause-more c = refl
