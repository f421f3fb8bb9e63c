use Rattle.hyd_theorems_on_open_checks.proofs.NeverRefusedOpenly.{always_accepted, reported_report}
use Rattle.hyd_theorems_on_open_checks.proofs.checks.Goals as goal

pub returns-clause-accepted : goal.returns-clause-accepted
returns-clause-accepted c = λ project text printed end slack founds left run certificate ends.
    always_accepted project text slack founds left run certificate printed end ends

pub returns-clause-report : goal.returns-clause-report
returns-clause-report c = λ project text printed end is ends. reported_report project text is printed end ends
