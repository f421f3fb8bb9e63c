use Rattle.hyd_theorems_on_checks.proofs.NeverRefused.{never_refused}
use Rattle.hyd_theorems_on_checks.proofs.ValidRuns.{run_of, certificate_of}
use Rattle.hyd_theorems_on_checks.proofs.valid_records.Goals as goal

pub returns-clause-run : goal.returns-clause-run
returns-clause-run c = run_of

pub returns-clause-certificate : goal.returns-clause-certificate
returns-clause-certificate c = certificate_of

pub returns-clause-never_refused : goal.returns-clause-never_refused
returns-clause-never_refused c = λ project sound text printed rows last valid certificate refusal.
    never_refused project text printed (certificate_of project sound text rows last valid certificate) refusal
