use Rattle.std.proofs.Common.{List, ap}
use Rattle.hyd_spec_certificates.specs.RecordAndStanding.{initial_standing}
use Rattle.hyd_spec_reports_with_flows.specs.PromisesWithFlows.{FoundNaming, founds_in}
use Rattle.hyd_theorems_on_runs.proofs.OneRun.{one_left}
use Rattle.hyd_theorems_on_checks.proofs.RunsByEntries.{one_by_entries}
use Rattle.hyd_theorems_on_checks.proofs.runs_naming.Goals as goal

pub returns : goal.returns
returns c = λ project a b last other x y are_a are_b entries.
    let same = one_by_entries project a b last other x y are_a are_b entries in (
      same,
      one_left project (initial_standing project) (founds_in a) (founds_in b) last other x y
          (ap (λ (all : List FoundNaming). founds_in all) same),
    )
