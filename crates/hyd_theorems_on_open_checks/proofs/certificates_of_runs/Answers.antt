use Rattle.hyd_theorems_on_open_checks.proofs.NeverRefusedOpenly.{told_is, accepted_is}
use Rattle.hyd_theorems_on_open_checks.proofs.certificates_of_runs.Goals as goal

pub returns-clause-told : goal.returns-clause-told
returns-clause-told c = told_is

pub returns-clause-accepted : goal.returns-clause-accepted
returns-clause-accepted c = accepted_is
