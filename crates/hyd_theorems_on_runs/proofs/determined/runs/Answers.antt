use Rattle.hyd_spec_certificates.specs.RecordAndStanding.{initial_standing}
use Rattle.hyd_theorems_on_runs.proofs.OneRun.{one_run, one_left}
use Rattle.hyd_theorems_on_runs.proofs.determined.runs.Goals as goal

pub returns : goal.returns
returns c = λ project a b last other x y tight too long.
    let same = one_run project (initial_standing project) a b last other x y tight too long in
    (same, one_left project (initial_standing project) a b last other x y same)
