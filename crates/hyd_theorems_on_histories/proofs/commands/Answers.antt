use Rattle.hyd_theorems_on_histories.proofs.CommandedLinkStates.{started_own, acted_own}
use Rattle.hyd_theorems_on_histories.proofs.commands.Goals as goal

pub returns-clause-starts : goal.returns-clause-starts
returns-clause-starts c = started_own

pub returns-clause-acts : goal.returns-clause-acts
returns-clause-acts c = acted_own
