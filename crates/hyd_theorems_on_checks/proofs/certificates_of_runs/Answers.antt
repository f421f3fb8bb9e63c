use Rattle.hyd_theorems_on_checks.proofs.TextsWithoutFlows.{run_without_flows}
use Rattle.hyd_theorems_on_checks.proofs.TextsWithFlows.{run_with_flows}
use Rattle.hyd_theorems_on_checks.proofs.WrittenAndAccepted.{accepted_is, written_is, accepted_naming_is}
use Rattle.hyd_theorems_on_checks.proofs.WrittenAndAccepted.{written_naming_is}
use Rattle.hyd_theorems_on_checks.proofs.certificates_of_runs.Goals as goal

pub returns-clause-written : goal.returns-clause-written
returns-clause-written c = written_is

pub returns-clause-accepted : goal.returns-clause-accepted
returns-clause-accepted c = accepted_is

pub returns-clause-without_flows : goal.returns-clause-without_flows
returns-clause-without_flows c = run_without_flows

pub returns-clause-written_naming : goal.returns-clause-written_naming
returns-clause-written_naming c = written_naming_is

pub returns-clause-accepted_naming : goal.returns-clause-accepted_naming
returns-clause-accepted_naming c = accepted_naming_is

pub returns-clause-with_flows : goal.returns-clause-with_flows
returns-clause-with_flows c = run_with_flows
