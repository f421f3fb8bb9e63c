use Rattle.hyd_theorems_on_open_ends.proofs.AcceptedOpenRuns.{late_within, greater_slack, accepted}
use Rattle.hyd_theorems_on_open_ends.proofs.acceptance.Goals as goal

pub returns-clause-within : goal.returns-clause-within
returns-clause-within c = late_within

pub returns-clause-slacks : goal.returns-clause-slacks
returns-clause-slacks c = greater_slack

pub returns-clause-checks : goal.returns-clause-checks
returns-clause-checks c = accepted
