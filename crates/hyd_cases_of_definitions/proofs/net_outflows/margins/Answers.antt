use Rattle.std.proofs.Common.{refl}
use Rattle.hyd_cases_of_definitions.proofs.net_outflows.margins.Goals as goal

pub returns-clause-margins : goal.returns-clause-margins
returns-clause-margins c = refl

pub returns-clause-ends : goal.returns-clause-ends
returns-clause-ends c = refl
