use Rattle.std.proofs.Common.{refl}
use Rattle.hyd_cases_of_definitions.proofs.flows_tanks_and_run_start.vectors.Goals as goal

pub returns-clause-main : goal.returns-clause-main
returns-clause-main c = refl

pub returns-clause-pinned : goal.returns-clause-pinned
returns-clause-pinned c = refl
