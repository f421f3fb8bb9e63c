-- The records of a run, what is left of one that breaks off, and what a check accepts.
use Rattle.std.proofs.Common.{◌≡◌, ℕ, Bool, List, [], ◌∷◌, ◌++◌, ◌∙◌, length, refl, sym, subst}
use Rattle.std.specs.Prelude.{Some}
use Rattle.hyd_spec.specs.ProgramTypes.{Project}
use Rattle.hyd_spec.specs.NodeNumbers.{junction_count, tank_count}
use Rattle.hyd_spec_certificates.specs.RecordAndStanding.{Standing}
use Rattle.hyd_spec_certificates.specs.CertificateText.{IsCertificateText, version_of}
use Rattle.hyd_spec_reports.specs.ReportLine.{report_text}
use Rattle.hyd_spec_certificates.specs.Valid.{AreValidFrom, none as no_record, more as more_records}
use Rattle.hyd_spec_reports.specs.PromisesOfRunsAndChecks.{Found, IsRunFrom, none, more, rows_of, lines_of, Sharpness}
use Rattle.hyd_spec_reports.specs.PromisesOfRunsAndChecks.{Outcome}
use Rattle.hyd_spec_reports.specs.PromisesOfRunsAndChecks.{Finished, Stopped, is_finished, EndsSo, RunWrites}
use Rattle.hyd_spec_reports.specs.PromisesOfRunsAndChecks.{RunBreaksOff}
use Rattle.hyd_spec_reports.specs.PromisesOfRunsAndChecks.{CheckAccepts, accepted_line}

pub valid_from : (project : Project) (start : Standing) (founds : List Found) (last : Standing)
    → IsRunFrom project start founds last
    → AreValidFrom project start (rows_of founds) last
valid_from project start [] last none = no_record
valid_from project start (found ∷ rest) last (more is goes) = more_records found.grid is.valid
    (valid_from project found.next rest last goes)

pub breaks_off : (project : Project) (rounds : ℕ) (sharpness : Sharpness) (outcome : Outcome)
    (certificate report written unwritten printed unprinted : List ℕ)
    → RunWrites project rounds sharpness outcome certificate report
    → written ++ unwritten ≡ certificate → printed ++ unprinted ≡ report
    → RunBreaksOff project rounds sharpness written printed
breaks_off project rounds sharpness outcome certificate report written unwritten printed unprinted run front_written
    front_printed = record {
      founds = run.founds;
      left = run.left;
      is_run = run.is_run;
      sharp = run.sharp;
      last = Some outcome;
      ends_so = run.ends_so;
      unwritten = unwritten;
      front_of_certificate = front_written ∙ run.certificate.is_text;
      unprinted = unprinted;
      front_of_report = front_printed ∙ run.report;
      every_history = run.every_history;
    }

-- the last word of a certificate is that of the standing that the run leaves
last_word : (project : Project) (left : Standing) (rounds : ℕ) (outcome : Outcome)
    → EndsSo project left rounds outcome → is_finished outcome ≡ left.finished
last_word project left rounds Finished ends = sym ends
last_word project left rounds (Stopped cause) ends = sym ends.0

pub accepts : (project : Project) (rounds : ℕ) (sharpness : Sharpness) (outcome : Outcome) (certificate report : List ℕ)
    (run : RunWrites project rounds sharpness outcome certificate report)
    → CheckAccepts project certificate (report_text project (lines_of run.founds)
    (accepted_line (length run.founds) run.left.finished))
accepts project rounds sharpness outcome certificate report run = record {
  founds = run.founds;
  left = run.left;
  is_run = run.is_run;
  certificate = subst (λ (finished : Bool). IsCertificateText certificate (version_of project)
      (junction_count project) (tank_count project) (rows_of run.founds) (length run.founds) finished)
      (last_word project run.left rounds outcome run.ends_so) run.certificate;
  report = refl;
  every_history = run.every_history;
}
