-- A text of version 4 has one answer and one report when it is checked.
use Rattle.std.proofs.Common.{◌≡◌, ℕ, List, [], ◌∷◌, ◌++◌, refl, sym, ap, ap₂, ◌∙◌, append_assoc}
use Rattle.hyd_net.specs.Sound.{IsSound}
use Rattle.hyd_spec.specs.ProgramTypes.{Project}
use Rattle.hyd_spec.specs.NodeNumbers.{junction_count, tank_count}
use Rattle.hyd_spec_certificates.specs.CertificateText.{line_feeds}
use Rattle.hyd_spec_certificates.specs.declared.CertRefused.{CertRefused}
use Rattle.hyd_spec_reports.specs.ReportLine.{refused_end_line}
use Rattle.hyd_spec_open_ends.specs.OpenStandings.{OpenStanding, OpenRecord}
use Rattle.hyd_spec_open_ends.specs.OpenRuns.{OpenFound, IsOpenRun}
use Rattle.hyd_spec_open_ends.specs.PromisesOfOpenRuns.{open_rows_of}
use Rattle.hyd_spec_open_reports.specs.OpenReportLine.{open_report_text}
use Rattle.hyd_spec_open_reports.specs.PromisesOfOpenReports.{Reported, periods_of, open_lines_of}
use Rattle.hyd_spec_open_refusals.specs.RefusalsOfOpenChecks.{CheckRefusesOpenly, CheckRefusesOpenEnd}
use Rattle.hyd_spec_check_ends.specs.LinesOfRefusals.{refused_grammar_line, printed_number}
use Rattle.hyd_spec_check_ends.specs.declared.CheckEnd.{CheckEnd}
use Rattle.hyd_spec_check_ends.specs.declared.CheckEnd.TheVariants.{Accepted, Refused}
use Rattle.hyd_spec_open_checks.specs.OpenChecks.{open_header_for, OpenCheckRefusal, grammar, counts, record_refused}
use Rattle.hyd_spec_open_checks.specs.OpenChecks.{other_end, CheckEndsOpenly, CheckRefusesOpenGrammar}
use Rattle.hyd_spec_open_checks.specs.OpenChecks.{CheckRefusesOpenCounts}
use Rattle.hyd_open_certificates.specs.OpenTexts.{IsOpenCertificate}
use Rattle.hyd_open_certificates.proofs.OneFirstFault.{one_open_fault, fault_or_other_header}
use Rattle.hyd_open_certificates.proofs.WholeOpenTexts.{refused, refused_counts}
use Rattle.hyd_theorems_on_open_refusals.proofs.OneOpenRefusal.{refused_invalid}
use Rattle.hyd_theorems_on_open_refusals.proofs.OpenTexts.{one_reading, first_records}
use Rattle.hyd_theorems_on_open_refusals.proofs.RecordsOfRuns.{one_answer}
use Rattle.hyd_theorems_on_open_checks.proofs.OneOpenRun.{one_run, next_valid, one_reports}
use Rattle.hyd_theorems_on_open_checks.proofs.NeverRefusedOpenly.{accepted_is, reported_not_refused, reported_report}
use Rattle.hyd_theorems_on_open_checks.proofs.LongestReadings.{longest, all_same, other_counts}

module _ (project : Project) (text : List ℕ) where
  -- the text but for its END line is a certificate
  its-text : (printed : List ℕ) → CheckRefusesOpenEnd project text printed
      → IsOpenCertificate (open_header_for project) text
  its-text printed refuses = record {
    known = refl;
    rows = open_rows_of (periods_of refuses.reports);
    periods = refuses.periods;
    finished = refuses.finished;
    is_text = refuses.certificate;
  }

  -- ---- never two reasons

  -- a record that is refused stands among all records of no other check
  not-among : (printed : List ℕ) (cause : CertRefused) (x : CheckRefusesOpenly project text printed cause)
      (slack : ℕ) (founds : List OpenFound) (left : OpenStanding) → IsOpenRun project slack founds left
      → (more : List OpenRecord)
      → open_rows_of founds ≡ (open_rows_of (periods_of x.reports) ++ (x.found ∷ [])) ++ more → ⊥
  not-among printed cause x slack founds left run more e =
      let before = open_rows_of (periods_of x.reports) in
      let at = next_valid project x.slack slack (periods_of x.reports) founds x.found more x.left left x.is_run run
      (e ∙ append_assoc before (x.found ∷ []) more) in
      refused_invalid project x.left x.found cause x.refused at.0 at.1 at.2

  line-or-record : (printed other : List ℕ) (cause : CertRefused) → CheckRefusesOpenGrammar project text printed
      → CheckRefusesOpenly project text other cause → ⊥
  line-or-record printed other cause x y =
      let k = longest project text printed x (open_rows_of (periods_of y.reports) ++ (y.found ∷ [])) y.rows_fit
      (record { unread = y.unread; is_text = y.is_text }) in
      not-among other cause y x.slack (periods_of x.reports) x.left x.is_run k.0 k.1

  record-or-end : (printed other : List ℕ) (cause : CertRefused) → CheckRefusesOpenly project text printed cause
      → CheckRefusesOpenEnd project text other → ⊥
  record-or-end printed other cause x y =
      let k = first_records text x.unread (junction_count project) (tank_count project) y.periods
      (open_rows_of (periods_of y.reports)) (open_rows_of (periods_of x.reports) ++ (x.found ∷ [])) y.finished
      y.certificate x.rows_fit x.is_text in
      not-among printed cause x y.slack (periods_of y.reports) y.left y.is_run k.0 k.1

  line-or-counts : (printed other : List ℕ) → CheckRefusesOpenGrammar project text printed
      → CheckRefusesOpenCounts project text other → ⊥
  line-or-counts printed other x y =
      fault_or_other_header (open_header_for project) text x.number x.is_fault y.other_header

  line-or-end : (printed other : List ℕ) → CheckRefusesOpenGrammar project text printed
      → CheckRefusesOpenEnd project text other → ⊥
  line-or-end printed other x y =
      refused (open_header_for project) (open_header_for project) text x.number x.is_fault (its-text other y)

  counts-or-record : IsSound project → (printed other : List ℕ) (cause : CertRefused)
      → CheckRefusesOpenCounts project text printed → CheckRefusesOpenly project text other cause → ⊥
  counts-or-record sound printed other cause x y =
      other_counts project text sound (open_rows_of (periods_of y.reports) ++ (y.found ∷ [])) x.other_header
      (record { unread = y.unread; is_text = y.is_text })

  counts-or-end : (printed other : List ℕ) → CheckRefusesOpenCounts project text printed
      → CheckRefusesOpenEnd project text other → ⊥
  counts-or-end printed other x y =
      refused_counts (open_header_for project) text x.other_header (its-text other y)

  -- ---- one reason

  by-line : (printed other : List ℕ) → CheckRefusesOpenGrammar project text printed
      → CheckRefusesOpenGrammar project text other → printed ≡ other
  by-line printed other x y =
      let run = one_run project x.slack y.slack (periods_of x.reports) (periods_of y.reports) x.left y.left x.is_run
      y.is_run (all_same project text printed other x y) in
      let reports = one_reports project x.reports y.reports x.are_reports y.are_reports run.0 in
      let number = one_open_fault (open_header_for project) text x.number y.number x.is_fault y.is_fault in
      x.report ∙ (ap₂ (λ (rs : List Reported) (n : ℕ). open_report_text project (open_lines_of rs)
      (refused_grammar_line (printed_number n))) reports number ∙ sym y.report)

  by-end : (printed other : List ℕ) → CheckRefusesOpenEnd project text printed
      → CheckRefusesOpenEnd project text other → printed ≡ other
  by-end printed other x y =
      let one = one_reading text (junction_count project) (tank_count project) x.periods y.periods
      (open_rows_of (periods_of x.reports)) (open_rows_of (periods_of y.reports)) x.finished y.finished x.certificate
      y.certificate in
      let run = one_run project x.slack y.slack (periods_of x.reports) (periods_of y.reports) x.left y.left x.is_run
      y.is_run one.0 in
      let reports = one_reports project x.reports y.reports x.are_reports y.are_reports run.0 in
      x.report ∙ (ap (λ (rs : List Reported). open_report_text project (open_lines_of rs)
      (refused_end_line (line_feeds text))) reports ∙ sym y.report)

  one-refusal : IsSound project → (printed other : List ℕ) → OpenCheckRefusal project text printed
      → OpenCheckRefusal project text other → printed ≡ other
  one-refusal sound printed other (grammar x) (grammar y) = by-line printed other x y
  one-refusal sound printed other (grammar x) (counts y) = absurd (line-or-counts printed other x y)
  one-refusal sound printed other (grammar x) (record_refused b y) = absurd (line-or-record printed other b x y)
  one-refusal sound printed other (grammar x) (other_end y) = absurd (line-or-end printed other x y)
  one-refusal sound printed other (counts x) (grammar y) = absurd (line-or-counts other printed y x)
  one-refusal sound printed other (counts x) (counts y) = x.report ∙ sym y.report
  one-refusal sound printed other (counts x) (record_refused b y) =
      absurd (counts-or-record sound printed other b x y)
  one-refusal sound printed other (counts x) (other_end y) = absurd (counts-or-end printed other x y)
  one-refusal sound printed other (record_refused a x) (grammar y) = absurd (line-or-record other printed a y x)
  one-refusal sound printed other (record_refused a x) (counts y) =
      absurd (counts-or-record sound other printed a y x)
  one-refusal sound printed other (record_refused a x) (record_refused b y) =
      (one_answer project text printed other a b x y).1
  one-refusal sound printed other (record_refused a x) (other_end y) = absurd (record-or-end printed other a x y)
  one-refusal sound printed other (other_end x) (grammar y) = absurd (line-or-end other printed y x)
  one-refusal sound printed other (other_end x) (counts y) = absurd (counts-or-end other printed y x)
  one-refusal sound printed other (other_end x) (record_refused b y) = absurd (record-or-end other printed b y x)
  one-refusal sound printed other (other_end x) (other_end y) = by-end printed other x y

  -- ---- one answer

  pub one_end : (printed other : List ℕ) (a b : CheckEnd) → CheckEndsOpenly project text printed a
      → CheckEndsOpenly project text other b → a ≡ b
  one_end printed other Accepted Accepted x y = refl
  one_end printed other Accepted Refused x y =
      absurd (reported_not_refused project text (accepted_is project text printed x) other y)
  one_end printed other Refused Accepted x y =
      absurd (reported_not_refused project text (accepted_is project text other y) printed x)
  one_end printed other Refused Refused x y = refl

  pub one_report : IsSound project → (printed other : List ℕ) (a b : CheckEnd)
      → CheckEndsOpenly project text printed a → CheckEndsOpenly project text other b → printed ≡ other
  one_report sound printed other Accepted b x y =
      let is = accepted_is project text printed x in
      reported_report project text is printed Accepted x ∙ sym (reported_report project text is other b y)
  one_report sound printed other Refused Accepted x y =
      absurd (reported_not_refused project text (accepted_is project text other y) printed x)
  one_report sound printed other Refused Refused x y = one-refusal sound printed other x y
