use Rattle.std.proofs.Common.{refl}
use Rattle.std.specs.Fmt.{digits}
use Rattle.hyd_cases_of_open_ends.proofs.refusals.lines.Goals as goal

pub returns-clause-header : goal.returns-clause-header
unfolding digits
returns-clause-header c = refl

pub returns-clause-period : goal.returns-clause-period
unfolding digits
returns-clause-period c = refl
