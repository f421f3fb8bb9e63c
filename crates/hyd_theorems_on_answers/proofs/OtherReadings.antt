-- The certificate of a run of one reading is that of a run of each other reading, with the same report, so no check by
-- these refuses it.
use Rattle.std.proofs.Common.{◌≡◌, ℕ, Bool, true, List, length, sym, ap, subst, ◌∙◌}
use Rattle.hyd_net.specs.Sound.{IsSound}
use Rattle.hyd_spec_lines.specs.Lines.{Row}
use Rattle.hyd_spec_input.specs.Project.{IsProject}
use Rattle.hyd_spec.specs.ProgramTypes.{Project}
use Rattle.hyd_spec.specs.NodeNumbers.{junction_count, tank_count}
use Rattle.hyd_spec_certificates.specs.RecordAndStanding.{Record, Standing}
use Rattle.hyd_spec_certificates.specs.Valid.{AreValid}
use Rattle.hyd_spec_certificates.specs.CertificateText.{IsCertificateText, version_of}
use Rattle.hyd_spec_reports.specs.ReportLine.{report_text}
use Rattle.hyd_spec_reports.specs.PromisesOfRunsAndChecks.{rows_of, lines_of, Sharpness, Outcome, Finished}
use Rattle.hyd_spec_reports.specs.PromisesOfRunsAndChecks.{accepted_line}
use Rattle.hyd_spec_reports.specs.PromisesOfRunsAndChecks.{RunWrites}
use Rattle.hyd_cert_check.specs.Checks.{CheckRefusal, CheckEnds}
use Rattle.hyd_spec_check_ends.specs.declared.CheckEnd.{CheckEnd}
use Rattle.hyd_spec_check_ends.specs.declared.CheckEnd.TheVariants.{Accepted}
use Rattle.hyd_theorems_on_checks.specs.CertificateOfRun.{IsCertificateOfRun}
use Rattle.hyd_theorems_on_checks.proofs.WrittenAndAccepted.{written_is}
use Rattle.hyd_theorems_on_checks.proofs.NeverRefused.{never_refused, ends_accepted, ends_with_report}
use Rattle.hyd_theorems_on_checks.proofs.ValidRuns.{certificate_of}
use Rattle.hyd_theorems_on_rereading.specs.WithoutSpare.{bare_project}
use Rattle.hyd_theorems_on_rereading.proofs.SameHeaders.{certificate_text}
use Rattle.hyd_theorems_on_rereading.proofs.RunsWithoutSpare.{runs, reports}
use Rattle.hyd_theorems_on_rereading.proofs.OneNetwork.{one_network}

module _ (p q : Project) (same : bare_project p ≡ bare_project q) where
  -- the run itself is carried over
  abbrev pub carried : (text : List ℕ) → IsCertificateOfRun p text → IsCertificateOfRun q text
  carried text is = record {
    founds = is.founds;
    left = is.left;
    is_run = runs p q same is.founds is.left is.is_run;
    certificate = certificate_text p q same text (rows_of is.founds) (length is.founds) is.left.finished is.certificate;
  }

  pub of_runs : (text printed : List ℕ) → IsCertificateOfRun p text → CheckRefusal q text printed → ⊥
  of_runs text printed is refusal = never_refused q text printed (carried text is) refusal

  pub of_records : IsSound p → (text printed : List ℕ) (records : List Record) (last : Standing)
      → AreValid p records last
      → IsCertificateText text (version_of p) (junction_count p) (tank_count p) records (length records) last.finished
      → CheckRefusal q text printed → ⊥
  of_records sound text printed records last valid certificate refusal =
      of_runs text printed (certificate_of p sound text records last valid certificate) refusal

  pub accepted : (text printed : List ℕ) (end : CheckEnd) → IsCertificateOfRun p text → CheckEnds q text printed end
      → end ≡ Accepted
  accepted text printed end is ends = ends_accepted q text printed end (carried text is) ends

  pub report : (text printed : List ℕ) (end : CheckEnd) (is : IsCertificateOfRun p text)
      → CheckEnds q text printed end
      → printed ≡ report_text p (lines_of is.founds) (accepted_line (length is.founds) is.left.finished)
  report text printed end is ends =
      ends_with_report q text printed end (carried text is) ends
      ∙ sym (reports p q same (lines_of is.founds) (accepted_line (length is.founds) is.left.finished))

-- what a finished run wrote
finished_is : (p : Project) (rounds : ℕ) (sharpness : Sharpness) (certificate report : List ℕ)
    (run : RunWrites p rounds sharpness Finished certificate report) → IsCertificateText certificate (version_of p)
    (junction_count p) (tank_count p) (rows_of run.founds) (length run.founds) run.left.finished
finished_is p rounds sharpness certificate report run =
    let finished : run.left.finished ≡ true = run.ends_so in
    subst (λ (b : Bool). IsCertificateText certificate (version_of p) (junction_count p) (tank_count p)
    (rows_of run.founds) (length run.founds) b) (sym finished) run.certificate

pub readings_accepted : (rows : List Row) (p q : Project) → IsProject rows p → IsProject rows q → (rounds : ℕ)
    (sharpness : Sharpness) (outcome : Outcome) (certificate report printed : List ℕ) (end : CheckEnd)
    → RunWrites p rounds sharpness outcome certificate report → CheckEnds q certificate printed end
    → end ≡ Accepted
readings_accepted rows p q f g rounds sharpness outcome certificate text printed end run ends =
    accepted p q (one_network rows p q f g) certificate printed end
    (written_is p rounds sharpness outcome certificate text run) ends

pub readings_report : (rows : List Row) (p q : Project) → IsProject rows p → IsProject rows q → (rounds : ℕ)
    (sharpness : Sharpness) (certificate report printed : List ℕ) (end : CheckEnd)
    → RunWrites p rounds sharpness Finished certificate report → CheckEnds q certificate printed end
    → printed ≡ report
readings_report rows p q f g rounds sharpness certificate text printed end run ends =
    let is : IsCertificateOfRun p certificate = record {
      founds = run.founds;
      left = run.left;
      is_run = run.is_run;
      certificate = finished_is p rounds sharpness certificate text run;
    } in
    let finished : run.left.finished ≡ true = run.ends_so in
    report p q (one_network rows p q f g) certificate printed end is ends
    ∙ (ap (λ (b : Bool). report_text p (lines_of run.founds) (accepted_line (length run.founds) b)) finished
    ∙ sym run.report)
