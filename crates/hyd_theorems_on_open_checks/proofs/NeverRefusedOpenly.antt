-- A check never refuses the certificate of a run with a slack, and where it accepts one it prints that run's report.
use Rattle.std.proofs.Common.{◌≡◌, ℕ, suc, Bool, List, [], ◌∷◌, ◌++◌, length, refl, sym, ap, ap₂, subst, ◌∙◌}
use Rattle.std.proofs.Common.{append_assoc}
use Rattle.hyd_spec.specs.ProgramTypes.{Project}
use Rattle.hyd_spec.specs.NodeNumbers.{junction_count, tank_count}
use Rattle.hyd_spec_certificates.specs.declared.CertRefused.{CertRefused}
use Rattle.hyd_spec_reports.specs.PromisesOfRunsAndChecks.{Sharpness, Outcome, Finished, Stopped, is_finished}
use Rattle.hyd_spec_reports.specs.PromisesOfRunsAndChecks.{accepted_line}
use Rattle.hyd_spec_open_ends.specs.OpenStandings.{OpenStanding}
use Rattle.hyd_spec_open_ends.specs.OpenRuns.{OpenFound, IsOpenRun}
use Rattle.hyd_spec_open_ends.specs.OpenCertificateText.{IsOpenCertificateText}
use Rattle.hyd_spec_open_ends.specs.PromisesOfOpenRuns.{EndsOpenlySo, open_rows_of}
use Rattle.hyd_spec_open_reports.specs.OpenReportLine.{open_report_text}
use Rattle.hyd_spec_open_reports.specs.PromisesOfOpenReports.{Reported, periods_of, open_lines_of}
use Rattle.hyd_spec_open_reports.specs.PromisesOfOpenReports.{RunTellsOpenly, CheckTellsOpenly, cause_of}
use Rattle.hyd_spec_open_refusals.specs.RefusalsOfOpenChecks.{CheckRefusesOpenly, CheckRefusesOpenEnd}
use Rattle.hyd_spec_open_checks.specs.OpenChecks.{open_header_for, OpenCheckRefusal, grammar, counts, record_refused}
use Rattle.hyd_spec_open_checks.specs.OpenChecks.{other_end, CheckEndsOpenly}
use Rattle.hyd_spec_check_ends.specs.declared.CheckEnd.{CheckEnd}
use Rattle.hyd_spec_check_ends.specs.declared.CheckEnd.TheVariants.{Accepted, Refused}
use Rattle.hyd_open_certificates.specs.OpenTexts.{IsOpenCertificate}
use Rattle.hyd_open_certificates.proofs.WholeOpenTexts.{refused, refused_counts}
use Rattle.hyd_theorems_on_open_refusals.proofs.OneOpenRefusal.{refused_invalid}
use Rattle.hyd_theorems_on_open_refusals.proofs.OpenTexts.{one_reading, first_records}
use Rattle.hyd_theorems_on_open_checks.specs.CertificateOfReportedRun.{IsCertificateOfReportedRun}
use Rattle.hyd_theorems_on_open_checks.proofs.OneOpenRun.{one_run, next_valid, one_reports}

pub periods_long : (reports : List Reported) → length (periods_of reports) ≡ length reports
periods_long [] = refl
periods_long (each ∷ reports) = ap suc (periods_long reports)

module _ (project : Project) (text : List ℕ) where
  -- ---- refusals

  module _ (slack : ℕ) (founds : List OpenFound) (left : OpenStanding) (run : IsOpenRun project slack founds left)
      (certificate : IsOpenCertificateText text (junction_count project) (tank_count project) (open_rows_of founds)
      (length founds) left.known.finished) where
    no-record : (printed : List ℕ) (cause : CertRefused) → CheckRefusesOpenly project text printed cause → ⊥
    no-record printed cause refuses =
        let before = open_rows_of (periods_of refuses.reports) in
        let front = first_records text refuses.unread (junction_count project) (tank_count project) (length founds)
        (open_rows_of founds) (before ++ (refuses.found ∷ [])) left.known.finished certificate refuses.rows_fit
        refuses.is_text in
        let at = next_valid project refuses.slack slack (periods_of refuses.reports) founds refuses.found front.0
        refuses.left left refuses.is_run run (front.1 ∙ append_assoc before (refuses.found ∷ []) front.0) in
        refused_invalid project refuses.left refuses.found cause refuses.refused at.0 at.1 at.2

    no-end : (printed : List ℕ) → CheckRefusesOpenEnd project text printed → ⊥
    no-end printed refuses =
        let one = one_reading text (junction_count project) (tank_count project) (length founds) refuses.periods
        (open_rows_of founds) (open_rows_of (periods_of refuses.reports)) left.known.finished refuses.finished
        certificate refuses.certificate in
        let same = one_run project slack refuses.slack founds (periods_of refuses.reports) left refuses.left run
        refuses.is_run one.0 in
        refuses.other_end (
          sym one.1.0 ∙ (ap length same.0 ∙ periods_long refuses.reports),
          sym one.1.1 ∙ ap (λ (s : OpenStanding). s.known.finished) same.1,
        )

    its-text : IsOpenCertificate (open_header_for project) text
    its-text = record {
      known = refl;
      rows = open_rows_of founds;
      periods = length founds;
      finished = left.known.finished;
      is_text = certificate;
    }

    pub never_refused : (printed : List ℕ) → OpenCheckRefusal project text printed → ⊥
    never_refused printed (grammar refuses) =
        refused (open_header_for project) (open_header_for project) text refuses.number refuses.is_fault its-text
    never_refused printed (counts refuses) =
        refused_counts (open_header_for project) text refuses.other_header its-text
    never_refused printed (record_refused cause refuses) = no-record printed cause refuses
    never_refused printed (other_end refuses) = no-end printed refuses

    pub always_accepted : (printed : List ℕ) (end : CheckEnd) → CheckEndsOpenly project text printed end → end ≡ Accepted
    always_accepted printed Accepted ends = refl
    always_accepted printed Refused ends = absurd (never_refused printed ends)

  -- ---- a run with its reports

  module _ (is : IsCertificateOfReportedRun project text) where
    -- the END line tells the number of the periods
    by-periods : IsOpenCertificateText text (junction_count project) (tank_count project)
        (open_rows_of (periods_of is.reports)) (length (periods_of is.reports)) is.left.known.finished
    by-periods = subst (λ (n : ℕ). IsOpenCertificateText text (junction_count project) (tank_count project)
        (open_rows_of (periods_of is.reports)) n is.left.known.finished) (sym (periods_long is.reports)) is.certificate

    pub reported_not_refused : (printed : List ℕ) → OpenCheckRefusal project text printed → ⊥
    reported_not_refused printed refusal =
        never_refused is.slack (periods_of is.reports) is.left is.is_run by-periods printed refusal

    told-so : (printed : List ℕ) → CheckTellsOpenly project text printed
        → printed ≡ open_report_text project (open_lines_of is.reports)
        (accepted_line (length is.reports) is.left.known.finished)
    told-so printed tells =
        let one = one_reading text (junction_count project) (tank_count project) (length tells.reports)
        (length is.reports) (open_rows_of (periods_of tells.reports)) (open_rows_of (periods_of is.reports))
        tells.left.known.finished is.left.known.finished tells.certificate is.certificate in
        let run = one_run project tells.slack is.slack (periods_of tells.reports) (periods_of is.reports) tells.left
        is.left tells.is_run is.is_run one.0 in
        let reports = one_reports project tells.reports is.reports tells.are_reports is.are_reports run.0 in
        tells.report
        ∙ ap₂ (λ (rs : List Reported) (b : Bool). open_report_text project (open_lines_of rs)
        (accepted_line (length rs) b)) reports one.1.1

    pub reported_report : (printed : List ℕ) (end : CheckEnd) → CheckEndsOpenly project text printed end
        → printed ≡ open_report_text project (open_lines_of is.reports)
        (accepted_line (length is.reports) is.left.known.finished)
    reported_report printed Accepted ends = told-so printed ends
    reported_report printed Refused ends = absurd (reported_not_refused printed ends)

-- ---- what runs write and checks accept

-- whether a run has finished is what its last standing says
finished-so : (project : Project) (left : OpenStanding) (slack rounds : ℕ) (outcome : Outcome)
    → EndsOpenlySo project left slack rounds (cause_of outcome) → is_finished outcome ≡ left.known.finished
finished-so project left slack rounds Finished ends = sym ends
finished-so project left slack rounds (Stopped cause) ends = sym ends.0

pub told_is : (project : Project) (slack rounds : ℕ) (sharpness : Sharpness) (outcome : Outcome)
    (text printed : List ℕ) → RunTellsOpenly project slack rounds sharpness outcome text printed
    → IsCertificateOfReportedRun project text
told_is project slack rounds sharpness outcome text printed run = record {
  slack = slack;
  reports = run.reports;
  left = run.left;
  is_run = run.is_run;
  are_reports = run.are_reports;
  certificate = subst (λ (b : Bool). IsOpenCertificateText text (junction_count project) (tank_count project)
      (open_rows_of (periods_of run.reports)) (length run.reports) b)
      (finished-so project run.left slack rounds outcome run.ends_so) run.certificate;
}

pub accepted_is : (project : Project) (text printed : List ℕ) → CheckTellsOpenly project text printed
    → IsCertificateOfReportedRun project text
accepted_is project text printed tells = record {
  slack = tells.slack;
  reports = tells.reports;
  left = tells.left;
  is_run = tells.is_run;
  are_reports = tells.are_reports;
  certificate = tells.certificate;
}
