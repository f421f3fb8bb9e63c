use Rattle.std.proofs.Common.{refl}
use Rattle.hyd_cases_of_definitions.proofs.numbers.clocks.Goals as goal
use Rattle.std.specs.Fmt.{digits}

pub returns : goal.returns
unfolding digits
returns c = refl
