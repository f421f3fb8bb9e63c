use Rattle.std.proofs.Common.{refl}
use Rattle.hyd_cases_of_definitions.proofs.scales_and_patterns.cuts.Goals as goal

pub returns : goal.returns
returns c = refl
