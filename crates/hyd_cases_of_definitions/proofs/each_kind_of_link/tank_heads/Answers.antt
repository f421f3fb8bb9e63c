use Rattle.std.proofs.Common.{refl}
use Rattle.hyd_cases_of_definitions.proofs.each_kind_of_link.tank_heads.Goals as goal

pub returns-clause-both : goal.returns-clause-both
returns-clause-both c = λ tank other bottom other_bottom. rw (bottom, other_bottom) refl

pub returns-clause-none : goal.returns-clause-none
returns-clause-none c = refl
