use Rattle.std.proofs.Common.{refl}
use Rattle.hyd_cases_of_runs.proofs.two_tank_town_report.outflows.Goals as goal

pub returns-clause-at_two : goal.returns-clause-at_two
returns-clause-at_two c = refl

pub returns-clause-when_full : goal.returns-clause-when_full
returns-clause-when_full c = refl
