use Rattle.std.proofs.Common.{refl}
use Rattle.hyd_cases_of_definitions.proofs.numbers.values.Goals as goal
use Rattle.hyd_num.specs.Numeral.{nano_of, magnitude_of}

pub returns : goal.returns
unfolding nano_of magnitude_of
returns c = refl
