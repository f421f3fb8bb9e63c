use Rattle.std.proofs.Common.{refl}
use Rattle.hyd_cases_of_definitions.proofs.rules.premises.Goals as goal

pub returns : goal.returns
returns c = λ a b c d e. refl
