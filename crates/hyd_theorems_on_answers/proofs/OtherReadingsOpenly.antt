-- The certificate of a run with a slack of one reading is that of a run of each other reading, with the same report, so
-- no check by these refuses it.
use Rattle.std.proofs.Common.{◌≡◌, ℕ, Bool, true, List, length, sym, ap, subst, ◌∙◌}
use Rattle.hyd_spec_lines.specs.Lines.{Row}
use Rattle.hyd_spec_input.specs.Project.{IsProject}
use Rattle.hyd_spec.specs.ProgramTypes.{Project}
use Rattle.hyd_spec.specs.NodeNumbers.{junction_count, tank_count}
use Rattle.hyd_spec_reports.specs.PromisesOfRunsAndChecks.{Sharpness, Outcome, Finished, accepted_line}
use Rattle.hyd_spec_open_ends.specs.OpenCertificateText.{IsOpenCertificateText}
use Rattle.hyd_spec_open_ends.specs.PromisesOfOpenRuns.{open_rows_of}
use Rattle.hyd_spec_open_reports.specs.OpenReportLine.{open_report_text}
use Rattle.hyd_spec_open_reports.specs.PromisesOfOpenReports.{periods_of, open_lines_of, RunTellsOpenly}
use Rattle.hyd_spec_open_checks.specs.OpenChecks.{CheckEndsOpenly}
use Rattle.hyd_spec_check_ends.specs.declared.CheckEnd.{CheckEnd}
use Rattle.hyd_spec_check_ends.specs.declared.CheckEnd.TheVariants.{Accepted, Refused}
use Rattle.hyd_theorems_on_open_checks.specs.CertificateOfReportedRun.{IsCertificateOfReportedRun}
use Rattle.hyd_theorems_on_open_checks.proofs.NeverRefusedOpenly.{periods_long, never_refused, always_accepted}
use Rattle.hyd_theorems_on_open_checks.proofs.NeverRefusedOpenly.{reported_report, told_is}
use Rattle.hyd_theorems_on_rereading.specs.WithoutSpare.{bare_project}
use Rattle.hyd_theorems_on_rereading.proofs.OneNetwork.{one_network}
use Rattle.hyd_theorems_on_open_rereading.proofs.OpenRunsWithoutSpare.{open_runs, open_reports, open_texts}
use Rattle.hyd_theorems_on_open_rereading.proofs.OpenRunsWithoutSpare.{open_certificates}
use Rattle.hyd_check_command.specs.OpenCertificateOfRun.{IsCertificateOfOpenRun}

-- ---- what a run tells

without-reports : (p : Project) (text : List ℕ) → IsCertificateOfReportedRun p text → IsCertificateOfOpenRun p text
without-reports p text is = record {
  slack = is.slack;
  founds = periods_of is.reports;
  left = is.left;
  is_run = is.is_run;
  certificate = subst (λ (n : ℕ). IsOpenCertificateText text (junction_count p) (tank_count p)
      (open_rows_of (periods_of is.reports)) n is.left.known.finished) (sym (periods_long is.reports)) is.certificate;
}

pub open_run_is : (p : Project) (slack rounds : ℕ) (sharpness : Sharpness) (outcome : Outcome)
    (text printed : List ℕ) → RunTellsOpenly p slack rounds sharpness outcome text printed
    → IsCertificateOfOpenRun p text
open_run_is p slack rounds sharpness outcome text printed run =
    without-reports p text (told_is p slack rounds sharpness outcome text printed run)

-- ---- another reading

module _ (p q : Project) (same : bare_project p ≡ bare_project q) where
  -- the run itself is carried over
  abbrev pub carried_openly : (text : List ℕ) → IsCertificateOfOpenRun p text → IsCertificateOfOpenRun q text
  carried_openly text is = record {
    slack = is.slack;
    founds = is.founds;
    left = is.left;
    is_run = open_runs p q same is.slack is.founds is.left is.is_run;
    certificate = open_certificates p q same text (open_rows_of is.founds) (length is.founds) is.left.known.finished
        is.certificate;
  }

  abbrev carried-with-reports : (text : List ℕ) → IsCertificateOfReportedRun p text
      → IsCertificateOfReportedRun q text
  carried-with-reports text is = record {
    slack = is.slack;
    reports = is.reports;
    left = is.left;
    is_run = open_runs p q same is.slack (periods_of is.reports) is.left is.is_run;
    are_reports = open_reports p q same is.reports is.are_reports;
    certificate = open_certificates p q same text (open_rows_of (periods_of is.reports)) (length is.reports)
        is.left.known.finished is.certificate;
  }

  pub not_refused_openly : (text printed : List ℕ) → IsCertificateOfOpenRun p text
      → CheckEndsOpenly q text printed Refused → ⊥
  not_refused_openly text printed is refusal =
      let on = carried_openly text is in
      never_refused q text on.slack on.founds on.left on.is_run on.certificate printed refusal

  pub accepted_openly : (text printed : List ℕ) (end : CheckEnd) → IsCertificateOfOpenRun p text
      → CheckEndsOpenly q text printed end → end ≡ Accepted
  accepted_openly text printed end is ends =
      let on = carried_openly text is in
      always_accepted q text on.slack on.founds on.left on.is_run on.certificate printed end ends

  pub report_openly : (text printed : List ℕ) (end : CheckEnd) (is : IsCertificateOfReportedRun p text)
      → CheckEndsOpenly q text printed end
      → printed ≡ open_report_text p (open_lines_of is.reports)
      (accepted_line (length is.reports) is.left.known.finished)
  report_openly text printed end is ends =
      reported_report q text (carried-with-reports text is) printed end ends
      ∙ sym (open_texts p q same (open_lines_of is.reports)
      (accepted_line (length is.reports) is.left.known.finished))

-- ---- readings

pub readings_accepted_openly : (rows : List Row) (p q : Project) → IsProject rows p → IsProject rows q
    → (slack rounds : ℕ) (sharpness : Sharpness) (outcome : Outcome) (certificate report printed : List ℕ)
    (end : CheckEnd) → RunTellsOpenly p slack rounds sharpness outcome certificate report
    → CheckEndsOpenly q certificate printed end → end ≡ Accepted
readings_accepted_openly rows p q f g slack rounds sharpness outcome certificate text printed end run ends =
    accepted_openly p q (one_network rows p q f g) certificate printed end
    (open_run_is p slack rounds sharpness outcome certificate text run) ends

pub readings_report_openly : (rows : List Row) (p q : Project) → IsProject rows p → IsProject rows q
    → (slack rounds : ℕ) (sharpness : Sharpness) (certificate report printed : List ℕ) (end : CheckEnd)
    → RunTellsOpenly p slack rounds sharpness Finished certificate report → CheckEndsOpenly q certificate printed end
    → printed ≡ report
readings_report_openly rows p q f g slack rounds sharpness certificate text printed end run ends =
    let finished : run.left.known.finished ≡ true = run.ends_so in
    let is : IsCertificateOfReportedRun p certificate = record {
      slack = slack;
      reports = run.reports;
      left = run.left;
      is_run = run.is_run;
      are_reports = run.are_reports;
      certificate = subst (λ (b : Bool). IsOpenCertificateText certificate (junction_count p) (tank_count p)
          (open_rows_of (periods_of run.reports)) (length run.reports) b) (sym finished) run.certificate;
    } in
    report_openly p q (one_network rows p q f g) certificate printed end is ends
    ∙ (ap (λ (b : Bool). open_report_text p (open_lines_of run.reports) (accepted_line (length run.reports) b))
    finished
    ∙ sym run.report)
