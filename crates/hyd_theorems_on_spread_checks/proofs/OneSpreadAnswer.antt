-- A text of version 4 has one answer and one report when it is checked for a spread.
use Rattle.std.proofs.Common.{◌≡◌, ℕ, ◌≤◌, Bool, ◌⊎◌, inl, inr, List, [], ◌∷◌, ◌++◌, length, refl, sym, ap, ap₂, subst}
use Rattle.std.proofs.Common.{◌∙◌, append_assoc, length-append, arith}
use Rattle.std.proofs.lemmas.Bool.{cases_lt}
use Rattle.hyd_net.specs.Sound.{IsSound}
use Rattle.hyd_spec.specs.ProgramTypes.{Project}
use Rattle.hyd_spec.specs.NodeNumbers.{junction_count, tank_count}
use Rattle.hyd_spec_certificates.specs.CertificateText.{line_feeds}
use Rattle.hyd_spec_certificates.specs.declared.CertRefused.{CertRefused}
use Rattle.hyd_spec_reports.specs.PromisesOfRunsAndChecks.{accepted_line}
use Rattle.hyd_spec_reports.specs.ReportLine.{refused_line, refused_end_line}
use Rattle.hyd_spec_open_ends.specs.OpenStandings.{OpenStanding, OpenRecord}
use Rattle.hyd_spec_check_ends.specs.LinesOfRefusals.{refused_grammar_line, printed_number}
use Rattle.hyd_spec_check_ends.specs.declared.CheckEnd.{CheckEnd}
use Rattle.hyd_spec_check_ends.specs.declared.CheckEnd.TheVariants.{Accepted, Refused}
use Rattle.hyd_spec_open_checks.specs.OpenChecks.{open_header_for, BeginsWithOpenRecords}
use Rattle.hyd_open_certificates.specs.OpenTexts.{IsOpenCertificate}
use Rattle.hyd_open_certificates.proofs.OneFirstFault.{one_open_fault, fault_or_other_header}
use Rattle.hyd_open_certificates.proofs.WholeOpenTexts.{refused, refused_counts}
use Rattle.hyd_spec_spread.specs.Spreads.{Spread}
use Rattle.hyd_spec_open_spreads.specs.OpenRunsForSpreads.{OpenFoundOver, IsOpenRunOver}
use Rattle.hyd_spec_spread_refusals.specs.RefusedSpreadRecords.{IsRefusedOver}
use Rattle.hyd_spec_spread_reports.specs.ClaimsWithinSpreads.{ReportedOver, periods_over, lines_over}
use Rattle.hyd_spec_spread_reports.specs.TextsOfSpreadReports.{spread_report_text}
use Rattle.hyd_spec_spread_promises.specs.PromisesOfSpreadRuns.{rows_over}
use Rattle.hyd_spec_spread_promises.specs.PromisesOfSpreadChecks.{AreOfRunOver, CheckTellsOver, CheckRefusesOver}
use Rattle.hyd_spec_spread_promises.specs.PromisesOfSpreadChecks.{CheckRefusesEndOver, CheckRefusesGrammarOver}
use Rattle.hyd_spec_spread_promises.specs.PromisesOfSpreadChecks.{CheckRefusesCountsOver, CheckRefusalOver, grammar}
use Rattle.hyd_spec_spread_promises.specs.PromisesOfSpreadChecks.{counts, record_refused, other_end, CheckEndsOver}
use Rattle.hyd_theorems_on_open_checks.proofs.LongestReadings.{longer, other_counts}
use Rattle.hyd_theorems_on_open_refusals.proofs.OpenTexts.{one_reading, first_records}
use Rattle.hyd_theorems_on_spread_refusals.proofs.OneSpreadRefusal.{refused_invalid, one_refusal}
use Rattle.hyd_theorems_on_spread_checks.proofs.AllRecordsOfTexts.{AreAll, longest, all_records_same}
use Rattle.hyd_theorems_on_spread_checks.proofs.NeverRefusedOver.{refused_fit, over_not_refused, accepted_certificate}
use Rattle.hyd_theorems_on_spread_checks.proofs.OneSpreadRun.{one_run_over, next_valid_over, one_reports_over}

-- a list with one item more that begins with a front and another one ends with that one, or has it within
ends-or-goes : {X : Type 0} (whole front : List X) (last y : X) (rest : List X)
    → whole ++ (last ∷ []) ≡ front ++ (y ∷ rest)
    → ((whole ≡ front) × (last ≡ y)) ⊎ ((more : List X) × (whole ≡ (front ++ (y ∷ [])) ++ more))
ends-or-goes [] [] last y rest e = inl (refl, cc)
ends-or-goes [] (x ∷ front) last y rest e =
    let n = ap length e in let m = length-append front (y ∷ rest) in absurd (omega (arith, n, m))
ends-or-goes (w ∷ whole) [] last y rest e =
    let same : w ≡ y = cc in inr (whole, ap (λ z. z ∷ whole) same)
ends-or-goes (w ∷ whole) (x ∷ front) last y rest e =
    let same : w ≡ x = cc in
    let after : whole ++ (last ∷ []) ≡ front ++ (y ∷ rest) = cc in
    elim (ends-or-goes whole front last y rest after) [
      | inl k ↦ inl (ap₂ (λ z zs. z ∷ zs) same k.0, k.1)
      | inr k ↦ inr (k.0, ap₂ (λ z zs. z ∷ zs) same k.1)
    ]

module _ (project : Project) (spread : Spread) (text : List ℕ) where
  -- the text but for its END line is a certificate
  its-text : (printed : List ℕ) → CheckRefusesEndOver project spread text printed
      → IsOpenCertificate (open_header_for project) text
  its-text printed refuses = record {
    known = refl;
    rows = rows_over (periods_over refuses.reports);
    periods = refuses.periods;
    finished = refuses.finished;
    is_text = refuses.certificate;
  }

  -- reports with the same records are the same, and what their runs leave
  same-reports : (xs ys : List ReportedOver) (last other : OpenStanding) → AreOfRunOver project spread xs last
      → AreOfRunOver project spread ys other → rows_over (periods_over xs) ≡ rows_over (periods_over ys)
      → (xs ≡ ys) × (last ≡ other)
  same-reports xs ys last other x y e =
      let run = one_run_over project spread x.slack y.slack (periods_over xs) (periods_over ys) last other x.is_run
      y.is_run e in
      (one_reports_over project xs ys x.are_reports y.are_reports run.0, run.1)

  all-of : (printed : List ℕ) (x : CheckRefusesGrammarOver project spread text printed)
      → AreAll project text (rows_over (periods_over x.reports))
  all-of printed x = record {
    fit = x.of_run.rows_fit;
    begins = by-begin x.begins;
    no_more = x.all_records;
  }
    where
      rows : List ReportedOver → List OpenRecord
      rows reports = rows_over (periods_over reports)

      by-begin : (x.reports ≡ []) ⊎ BeginsWithOpenRecords project (rows_over (periods_over x.reports)) text
          → (rows_over (periods_over x.reports) ≡ [])
          ⊎ BeginsWithOpenRecords project (rows_over (periods_over x.reports)) text
      by-begin (inl none) = inl (ap rows none)
      by-begin (inr begins) = inr begins

  -- ---- never two reasons

  -- a record that is refused stands among all records of no other check
  not-among : (printed : List ℕ) (cause : CertRefused) (x : CheckRefusesOver project spread text printed cause)
      (slack : ℕ) (founds : List OpenFoundOver) (left : OpenStanding) → IsOpenRunOver project spread slack founds left
      → (more : List OpenRecord)
      → rows_over founds ≡ (rows_over (periods_over x.reports) ++ (x.found ∷ [])) ++ more → ⊥
  not-among printed cause x slack founds left run more e =
      let before = rows_over (periods_over x.reports) in
      let at = next_valid_over project spread x.of_run.slack slack (periods_over x.reports) founds x.found more x.left
      left x.of_run.is_run run (e ∙ append_assoc before (x.found ∷ []) more) in
      refused_invalid project spread x.left x.found cause x.refused at.0 at.1 at.2

  line-or-record : (printed other : List ℕ) (cause : CertRefused) → CheckRefusesGrammarOver project spread text printed
      → CheckRefusesOver project spread text other cause → ⊥
  line-or-record printed other cause x y =
      let k = longest project text (rows_over (periods_over x.reports))
      (rows_over (periods_over y.reports) ++ (y.found ∷ [])) (all-of printed x)
      (refused_fit project spread text other cause y) y.is_text in
      not-among other cause y x.of_run.slack (periods_over x.reports) x.left x.of_run.is_run k.0 k.1

  record-or-end : (printed other : List ℕ) (cause : CertRefused) → CheckRefusesOver project spread text printed cause
      → CheckRefusesEndOver project spread text other → ⊥
  record-or-end printed other cause x y =
      let k = first_records text x.is_text.unread (junction_count project) (tank_count project) y.periods
      (rows_over (periods_over y.reports)) (rows_over (periods_over x.reports) ++ (x.found ∷ [])) y.finished
      y.certificate (refused_fit project spread text printed cause x) x.is_text.is_text in
      not-among printed cause x y.of_run.slack (periods_over y.reports) y.left y.of_run.is_run k.0 k.1

  line-or-counts : (printed other : List ℕ) → CheckRefusesGrammarOver project spread text printed
      → CheckRefusesCountsOver project spread text other → ⊥
  line-or-counts printed other x y =
      fault_or_other_header (open_header_for project) text x.number x.is_fault y.other_header

  line-or-end : (printed other : List ℕ) → CheckRefusesGrammarOver project spread text printed
      → CheckRefusesEndOver project spread text other → ⊥
  line-or-end printed other x y =
      refused (open_header_for project) (open_header_for project) text x.number x.is_fault (its-text other y)

  counts-or-record : IsSound project → (printed other : List ℕ) (cause : CertRefused)
      → CheckRefusesCountsOver project spread text printed → CheckRefusesOver project spread text other cause → ⊥
  counts-or-record sound printed other cause x y =
      other_counts project text sound (rows_over (periods_over y.reports) ++ (y.found ∷ [])) x.other_header y.is_text

  counts-or-end : (printed other : List ℕ) → CheckRefusesCountsOver project spread text printed
      → CheckRefusesEndOver project spread text other → ⊥
  counts-or-end printed other x y =
      refused_counts (open_header_for project) text x.other_header (its-text other y)

  -- ---- one reason

  by-line : (printed other : List ℕ) → CheckRefusesGrammarOver project spread text printed
      → CheckRefusesGrammarOver project spread text other → printed ≡ other
  by-line printed other x y =
      let same = same-reports x.reports y.reports x.left y.left x.of_run y.of_run
      (all_records_same project text (rows_over (periods_over x.reports)) (rows_over (periods_over y.reports))
      (all-of printed x) (all-of other y)) in
      let number = one_open_fault (open_header_for project) text x.number y.number x.is_fault y.is_fault in
      x.report ∙ (ap₂ (λ (rs : List ReportedOver) (n : ℕ). spread_report_text project spread (lines_over rs)
      (refused_grammar_line (printed_number n))) same.0 number ∙ sym y.report)

  by-end : (printed other : List ℕ) → CheckRefusesEndOver project spread text printed
      → CheckRefusesEndOver project spread text other → printed ≡ other
  by-end printed other x y =
      let one = one_reading text (junction_count project) (tank_count project) x.periods y.periods
      (rows_over (periods_over x.reports)) (rows_over (periods_over y.reports)) x.finished y.finished x.certificate
      y.certificate in
      let same = same-reports x.reports y.reports x.left y.left x.of_run y.of_run one.0 in
      x.report ∙ (ap (λ (rs : List ReportedOver). spread_report_text project spread (lines_over rs)
      (refused_end_line (line_feeds text))) same.0 ∙ sym y.report)

  by-record : (printed other : List ℕ) (a b : CertRefused) (x : CheckRefusesOver project spread text printed a)
      (y : CheckRefusesOver project spread text other b)
      → rows_over (periods_over x.reports) ≡ rows_over (periods_over y.reports) → x.found ≡ y.found
      → printed ≡ other
  by-record printed other a b x y rows found =
      let same = same-reports x.reports y.reports x.left y.left x.of_run y.of_run rows in
      let cause = one_refusal project spread x.left x.found a b x.refused
      (subst (λ (s : OpenStanding). IsRefusedOver project spread s x.found b) (sym same.1)
      (subst (λ (f : OpenRecord). IsRefusedOver project spread y.left f b) (sym found) y.refused)) in
      x.report ∙ (ap₂ (λ (rs : List ReportedOver) (c : CertRefused). spread_report_text project spread (lines_over rs)
      (refused_line project c)) same.0 cause ∙ sym y.report)

  -- of two records that are refused neither stands before the other
  one-record : (printed other : List ℕ) (a b : CertRefused) (x : CheckRefusesOver project spread text printed a)
      (y : CheckRefusesOver project spread text other b)
      → length (rows_over (periods_over x.reports) ++ (x.found ∷ []))
      ≤ length (rows_over (periods_over y.reports) ++ (y.found ∷ [])) → printed ≡ other
  one-record printed other a b x y le =
      let xs = rows_over (periods_over x.reports) in
      let ys = rows_over (periods_over y.reports) in
      let k = longer project text (xs ++ (x.found ∷ [])) (ys ++ (y.found ∷ []))
      (refused_fit project spread text printed a x) (refused_fit project spread text other b y) x.is_text y.is_text le
      in
      elim (ends-or-goes ys xs y.found x.found k.0 (k.1 ∙ append_assoc xs (x.found ∷ []) k.0)) [
        | inl same ↦ by-record printed other a b x y (sym same.0) (sym same.1)
        | inr within ↦ absurd (not-among printed a x y.of_run.slack (periods_over y.reports) y.left y.of_run.is_run
            within.0 within.1)
      ]

  records-same : (printed other : List ℕ) (a b : CertRefused) → CheckRefusesOver project spread text printed a
      → CheckRefusesOver project spread text other b → printed ≡ other
  records-same printed other a b x y =
      elim (cases_lt (length (rows_over (periods_over y.reports) ++ (y.found ∷ [])))
      (length (rows_over (periods_over x.reports) ++ (x.found ∷ [])))) [
        | inr le ↦ one-record printed other a b x y le
        | inl less ↦ sym (one-record other printed b a y x (omega (arith, less)))
      ]

  one-refused : IsSound project → (printed other : List ℕ) → CheckRefusalOver project spread text printed
      → CheckRefusalOver project spread text other → printed ≡ other
  one-refused sound printed other (grammar x) (grammar y) = by-line printed other x y
  one-refused sound printed other (grammar x) (counts y) = absurd (line-or-counts printed other x y)
  one-refused sound printed other (grammar x) (record_refused b y) = absurd (line-or-record printed other b x y)
  one-refused sound printed other (grammar x) (other_end y) = absurd (line-or-end printed other x y)
  one-refused sound printed other (counts x) (grammar y) = absurd (line-or-counts other printed y x)
  one-refused sound printed other (counts x) (counts y) = x.report ∙ sym y.report
  one-refused sound printed other (counts x) (record_refused b y) =
      absurd (counts-or-record sound printed other b x y)
  one-refused sound printed other (counts x) (other_end y) = absurd (counts-or-end printed other x y)
  one-refused sound printed other (record_refused a x) (grammar y) = absurd (line-or-record other printed a y x)
  one-refused sound printed other (record_refused a x) (counts y) =
      absurd (counts-or-record sound other printed a y x)
  one-refused sound printed other (record_refused a x) (record_refused b y) = records-same printed other a b x y
  one-refused sound printed other (record_refused a x) (other_end y) = absurd (record-or-end printed other a x y)
  one-refused sound printed other (other_end x) (grammar y) = absurd (line-or-end other printed y x)
  one-refused sound printed other (other_end x) (counts y) = absurd (counts-or-end other printed y x)
  one-refused sound printed other (other_end x) (record_refused b y) = absurd (record-or-end other printed b y x)
  one-refused sound printed other (other_end x) (other_end y) = by-end printed other x y

  told-same : (printed other : List ℕ) → CheckTellsOver project spread text printed
      → CheckTellsOver project spread text other → printed ≡ other
  told-same printed other x y =
      let one = one_reading text (junction_count project) (tank_count project) (length x.reports) (length y.reports)
      (rows_over (periods_over x.reports)) (rows_over (periods_over y.reports)) x.left.known.finished
      y.left.known.finished x.certificate y.certificate in
      let same = same-reports x.reports y.reports x.left y.left x.of_run y.of_run one.0 in
      x.report ∙ (ap₂ (λ (rs : List ReportedOver) (b : Bool). spread_report_text project spread (lines_over rs)
      (accepted_line (length rs) b)) same.0 one.1.1 ∙ sym y.report)

  -- ---- one answer

  accepted-or-refused : (printed other : List ℕ) → CheckTellsOver project spread text printed
      → CheckRefusalOver project spread text other → ⊥
  accepted-or-refused printed other x y =
      over_not_refused project spread text (accepted_certificate project spread text printed x) other y

  pub one_end_over : (printed other : List ℕ) (a b : CheckEnd) → CheckEndsOver project spread text printed a
      → CheckEndsOver project spread text other b → a ≡ b
  one_end_over printed other Accepted Accepted x y = refl
  one_end_over printed other Accepted Refused x y = absurd (accepted-or-refused printed other x y)
  one_end_over printed other Refused Accepted x y = absurd (accepted-or-refused other printed y x)
  one_end_over printed other Refused Refused x y = refl

  pub one_report_over : IsSound project → (printed other : List ℕ) (a b : CheckEnd)
      → CheckEndsOver project spread text printed a → CheckEndsOver project spread text other b → printed ≡ other
  one_report_over sound printed other Accepted Accepted x y = told-same printed other x y
  one_report_over sound printed other Accepted Refused x y = absurd (accepted-or-refused printed other x y)
  one_report_over sound printed other Refused Accepted x y = absurd (accepted-or-refused other printed y x)
  one_report_over sound printed other Refused Refused x y = one-refused sound printed other x y
