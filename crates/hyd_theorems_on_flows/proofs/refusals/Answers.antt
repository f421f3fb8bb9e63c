use Rattle.hyd_theorems_on_flows.proofs.OneCause.{one_cause, none_refused}
use Rattle.hyd_theorems_on_flows.proofs.refusals.Goals as goal

pub returns-clause-one : goal.returns-clause-one
returns-clause-one c = one_cause

pub returns-clause-none : goal.returns-clause-none
returns-clause-none c = λ grid row part cause is refused. none_refused grid row part cause is refused
