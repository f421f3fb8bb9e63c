use Rattle.std.proofs.Common.{refl}
use Rattle.hyd_cases_of_definitions.proofs.net_outflows.low_net_outflow.Goals as goal

pub returns-clause-main_first : goal.returns-clause-main_first
returns-clause-main_first c = refl

pub returns-clause-main_second : goal.returns-clause-main_second
returns-clause-main_second c = refl

pub returns-clause-pinned_first : goal.returns-clause-pinned_first
returns-clause-pinned_first c = refl

pub returns-clause-pinned_second : goal.returns-clause-pinned_second
returns-clause-pinned_second c = refl
