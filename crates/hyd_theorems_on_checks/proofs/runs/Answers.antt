use Rattle.hyd_spec_certificates.specs.RecordAndStanding.{initial_standing}
use Rattle.hyd_theorems_on_runs.proofs.OneRun.{one_left}
use Rattle.hyd_theorems_on_checks.proofs.RunsByRecords.{one_by_records, next_valid}
use Rattle.hyd_theorems_on_checks.proofs.runs.Goals as goal

pub returns-clause-one : goal.returns-clause-one
returns-clause-one c = λ project a b last other x y rows.
    let same = one_by_records project (initial_standing project) a b last other x y rows in
    (same, one_left project (initial_standing project) a b last other x y same)

pub returns-clause-next : goal.returns-clause-next
returns-clause-next c = λ project a b row rows last other x y e.
    let is = next_valid project (initial_standing project) a b row rows last other x y e in
    (is.grid, is.next, is.valid)
