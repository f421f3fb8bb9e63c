use Rattle.hyd_theorems_on_checks.proofs.NeverRefused.{ends_with_report}
use Rattle.hyd_theorems_on_checks.proofs.NeverRefusedNaming.{some_accepted, naming_with_report}
use Rattle.hyd_theorems_on_checks.proofs.checks.Goals as goal

pub returns-clause-accepted : goal.returns-clause-accepted
returns-clause-accepted c = some_accepted

pub returns-clause-report : goal.returns-clause-report
returns-clause-report c = ends_with_report

pub returns-clause-report_with_flows : goal.returns-clause-report_with_flows
returns-clause-report_with_flows c = λ project text printed end is ends.
    naming_with_report project text printed is end ends
