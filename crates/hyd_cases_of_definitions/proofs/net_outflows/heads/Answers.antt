use Rattle.std.proofs.Common.{refl}
use Rattle.hyd_cases_of_definitions.proofs.net_outflows.heads.Goals as goal

pub returns-clause-main_upper : goal.returns-clause-main_upper
returns-clause-main_upper c = refl

pub returns-clause-main_lower : goal.returns-clause-main_lower
returns-clause-main_lower c = refl

pub returns-clause-pinned_upper : goal.returns-clause-pinned_upper
returns-clause-pinned_upper c = refl

pub returns-clause-pinned_lower : goal.returns-clause-pinned_lower
returns-clause-pinned_lower c = refl
