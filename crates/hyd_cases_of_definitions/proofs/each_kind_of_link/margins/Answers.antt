use Rattle.std.proofs.Common.{refl}
use Rattle.hyd_cases_of_definitions.proofs.each_kind_of_link.margins.Goals as goal

pub returns : goal.returns
returns c = λ parts. refl
