-- No record of a run is refused, and none of the certificate of a run.
use Rattle.std.proofs.Common.{ℕ, List, [], ◌∷◌, ◌++◌, ◌∙◌, append_assoc}
use Rattle.hyd_spec.specs.ProgramTypes.{Project}
use Rattle.hyd_spec.specs.NodeNumbers.{junction_count, tank_count}
use Rattle.hyd_spec_certificates.specs.RecordAndStanding.{Record, Standing, initial_standing}
use Rattle.hyd_spec_certificates.specs.CertificateText.{version_of}
use Rattle.hyd_spec_certificates.specs.declared.CertRefused.{CertRefused}
use Rattle.hyd_spec_certificates.specs.RefusedRecords.{IsRefused}
use Rattle.hyd_spec_reports.specs.PromisesOfRunsAndChecks.{Found, IsRun, rows_of, CheckRefuses}
use Rattle.hyd_theorems_on_definitions.proofs.OneRefusal.{refused_invalid}
use Rattle.hyd_theorems_on_checks.specs.CertificateOfRun.{IsCertificateOfRun}
use Rattle.hyd_theorems_on_checks.proofs.FirstRecords.{first_rows}
use Rattle.hyd_theorems_on_checks.proofs.BeginningsOfLists.{Begins}
use Rattle.hyd_theorems_on_checks.proofs.RunsByRecords.{next_valid}

-- a record that is refused doesn't stand behind those before it in a run
pub none_refused : (project : Project) (a b : List Found) (last other : Standing) (row : Record) (cause : CertRefused)
    → IsRun project a last → IsRefused project last row cause → IsRun project b other
    → Begins (rows_of a ++ (row ∷ [])) (rows_of b) → ⊥
none_refused project a b last other row cause x refused y k =
    let records = k.is ∙ append_assoc (rows_of a) (row ∷ []) k.more in
    let at = next_valid project (initial_standing project) a b row k.more last other x y records in
    refused_invalid project last row cause refused at.grid at.next at.valid

-- the record that is refused is one of the run, and so it's valid where the records before it lead
pub no_record_refused : (project : Project) (text printed : List ℕ) (cause : CertRefused)
    → IsCertificateOfRun project text → CheckRefuses project text printed cause → ⊥
no_record_refused project text printed cause is refuses =
    let before = rows_of refuses.founds in
    let row = refuses.row in
    let front = first_rows text refuses.unread (version_of project) (junction_count project) (tank_count project) _
    (rows_of is.founds) (before ++ (row ∷ [])) is.left.finished is.certificate refuses.rows_fit refuses.is_text in
    none_refused project refuses.founds is.founds refuses.left is.left row cause refuses.is_run refuses.refused is.is_run
    (record { more = front.0; is = front.1 })
