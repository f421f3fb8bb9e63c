use Rattle.hyd_theorems_on_checks.proofs.NeverRefused.{never_refused}
use Rattle.hyd_theorems_on_checks.proofs.NeverRefusedNaming.{never_refused_naming, some_not_refused}
use Rattle.hyd_theorems_on_checks.proofs.refusals.Goals as goal

pub returns-clause-without_flows : goal.returns-clause-without_flows
returns-clause-without_flows c = never_refused

pub returns-clause-with_flows : goal.returns-clause-with_flows
returns-clause-with_flows c = never_refused_naming

pub returns-clause-of_all : goal.returns-clause-of_all
returns-clause-of_all c = some_not_refused
