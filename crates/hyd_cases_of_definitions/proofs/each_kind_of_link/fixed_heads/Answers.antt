use Rattle.std.proofs.Common.{refl}
use Rattle.hyd_cases_of_definitions.proofs.each_kind_of_link.fixed_heads.Goals as goal

pub returns-clause-main_upper : goal.returns-clause-main_upper
returns-clause-main_upper c = λ parts. refl

pub returns-clause-main_lower : goal.returns-clause-main_lower
returns-clause-main_lower c = λ parts. refl

pub returns-clause-pinned_upper : goal.returns-clause-pinned_upper
returns-clause-pinned_upper c = λ parts. refl

pub returns-clause-pinned_lower : goal.returns-clause-pinned_lower
returns-clause-pinned_lower c = λ parts. refl
