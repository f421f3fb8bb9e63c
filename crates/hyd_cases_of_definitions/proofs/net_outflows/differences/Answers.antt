use Rattle.std.proofs.Common.{refl}
use Rattle.hyd_cases_of_definitions.proofs.net_outflows.differences.Goals as goal

pub returns-clause-between_junctions : goal.returns-clause-between_junctions
returns-clause-between_junctions c = refl

pub returns-clause-to_tank : goal.returns-clause-to_tank
returns-clause-to_tank c = refl
