-- What the search for a witness promises of a certificate that isn't right, and of a search that is broken off.
-- Source: this program's.
use Rattle.std.specs.Prelude.{◌≡◌, List, ℕ, [], ◌∷◌, ◌++◌, codes, length}
use Rattle.hyd_spec.specs.ProgramTypes.{Project}
use Rattle.hyd_spec_certificates.specs.RecordAndStanding.{Standing}
use Rattle.hyd_spec_certificates.specs.CertificateText.{line}
use Rattle.hyd_spec_reports.specs.PromisesOfRunsAndChecks.{Found, IsFound, IsRun}
use Rattle.hyd_spec_reports_with_flows.specs.PromisesWithFlows.{FoundNaming, founds_in, report_with_flows}
use Rattle.hyd_spec_witnesses.specs.MetPeriods.{Moment}
use Rattle.hyd_spec_witness_answers.specs.PromisesOfWitnesses.{IsWrittenScale, WritesWitness, BeginsCertificateOf}
use Rattle.hyd_spec_witness_answers.specs.PromisesOfWitnesses.{no_witness_line}
use Rattle.hyd_cert_check.specs.Checks.{CheckEnds}
use Rattle.hyd_spec_check_ends.specs.declared.CheckEnd.TheVariants.{Refused}

-- The line is that of a refusal: its first word says so.
pub record IsRefusalLine (printed : List ℕ) : Type 0 where
  pub words : List (List ℕ)
  pub is : printed ≡ line (codes "BADCERT" ∷ words)

-- What was read is refused by a check, with a report on some periods and this last line, which alone was printed. What
-- was written is a witness with a period for each of them.
pub record RefusesCertificate (project : Project) (certificate written printed : List ℕ) : Type 0 where
  pub namings : List FoundNaming
  pub left : Standing
  pub is_run : IsRun project (founds_in namings) left
  pub refused : CheckEnds project certificate (report_with_flows project namings printed) Refused
  pub is_line : IsRefusalLine printed
  pub scale : ℕ
  pub is_scale : IsWrittenScale scale
  pub moments : List Moment
  pub writes : WritesWitness project scale written (founds_in namings) moments

-- What was written is a front of a witness at a scale, with a period for each of those that were found.
pub record BeginsWitness (project : Project) (scale : ℕ) (written : List ℕ) : Type 0 where
  pub founds : List Found
  pub left : Standing
  pub is_run : IsRun project founds left
  pub moments : List Moment
  pub unwritten : List ℕ
  pub writes : WritesWitness project scale (written ++ unwritten) founds moments

-- What was read begins as the certificate of a run with one more valid record, whatever comes after that. What was
-- written is a witness at a scale with a period for each of the records before.
pub record StopsShort (project : Project) (scale : ℕ) (certificate written printed : List ℕ) : Type 0 where
  pub founds : List Found
  pub found : Found
  pub is_found : IsFound project found
  pub begins : BeginsCertificateOf project certificate found.standing founds
  pub begins_with_it : BeginsCertificateOf project certificate found.next (founds ++ (found ∷ []))
  pub moments : List Moment
  pub writes : WritesWitness project scale written founds moments
  pub report : printed ≡ no_witness_line (length founds)
