use Rattle.std.proofs.Common.{refl}
use Rattle.hyd_cases_of_definitions.proofs.net_outflows.inflow_box.Goals as goal

pub returns : goal.returns
returns c = refl
