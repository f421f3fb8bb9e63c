-- Valid records are valid of each network that differs in spares alone.
use Rattle.std.proofs.Common.{◌≡◌, List, subst}
use Rattle.hyd_spec.specs.ProgramTypes.{Project}
use Rattle.hyd_spec_certificates.specs.RecordAndStanding.{Record, Standing}
use Rattle.hyd_spec_certificates.specs.Valid.{AreValid}
use Rattle.hyd_theorems_on_rereading.specs.WithoutSpare.{bare_project}
use Rattle.hyd_theorems_on_rereading.proofs.PartsWithSpares.{own_inner, bare_inner, bare_alike, turned}
use Rattle.hyd_theorems_on_rereading.proofs.SameValidRecords.{records_on}

bared : (p : Project) (rows : List Record) (last : Standing) → AreValid p rows last
    → AreValid (bare_project p) rows last
bared p rows last valid = records_on p (own_inner p) (bare_inner p) (bare_alike p) rows last valid

unbared : (p : Project) (rows : List Record) (last : Standing) → AreValid (bare_project p) rows last
    → AreValid p rows last
unbared p rows last valid =
    records_on p (bare_inner p) (own_inner p) (turned (own_inner p) (bare_inner p) (bare_alike p)) rows last valid

pub valid_records : (p q : Project) → bare_project p ≡ bare_project q → (rows : List Record) (last : Standing)
    → AreValid p rows last → AreValid q rows last
valid_records p q same rows last valid =
    unbared q rows last (subst (λ (r : Project). AreValid r rows last) same (bared p rows last valid))
