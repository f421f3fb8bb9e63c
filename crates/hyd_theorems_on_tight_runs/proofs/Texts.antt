-- The texts of tight runs that finish are one, and as far as any tight run goes its texts begin them.
use Rattle.std.proofs.Common.{◌≡◌, ℕ, Bool, true, false, true≢false, ◌⊎◌, inl, inr, List, [], ◌∷◌, ◌++◌, length, map}
use Rattle.std.proofs.Common.{None, sym, ap, subst, ◌∙◌, append_assoc, append-nil, decimal, codes, MatchBool}
use Rattle.std.specs.List.{AllByRecursion}
use Rattle.hyd_net.specs.Sound.{IsSound}
use Rattle.hyd_spec.specs.ProgramTypes.{Project}
use Rattle.hyd_spec.specs.Lists.{joined, IsFrontOf}
use Rattle.hyd_spec.specs.NodeNumbers.{junction_count, tank_count}
use Rattle.hyd_spec_certificates.specs.RecordAndStanding.{Record, Standing}
use Rattle.hyd_spec_certificates.specs.CertificateText.{line, version_of, header_line, record_text, end_line}
use Rattle.hyd_spec_certificates.specs.CertificateText.{certificate_text}
use Rattle.hyd_spec_reports.specs.ReportLine.{ReportLine, report_text, line_text, done_line}
use Rattle.hyd_spec_certificates.specs.declared.StopCause.{StopCause}
use Rattle.hyd_spec_certificates.specs.Stops.{Stops}
use Rattle.hyd_spec_reports.specs.PromisesOfRunsAndChecks.{Found, rows_of, lines_of, Sharpness, IsSharpFound}
use Rattle.hyd_spec_reports.specs.PromisesOfRunsAndChecks.{IsTightThroughout}
use Rattle.hyd_spec_reports.specs.PromisesOfRunsAndChecks.{certificate_so_far, report_so_far}
use Rattle.hyd_spec_certificates.specs.Narrow.{IsNarrow}
use Rattle.hyd_theorems_on_nesting.specs.GoingOnOrStopped.{IsReason}
use Rattle.hyd_theorems_on_nesting.proofs.NoStopWhereValid.{no_stop}
use Rattle.hyd_theorems_on_runs.proofs.RunsGoOnOrStop.{run_keeps}
use Rattle.hyd_theorems_on_tight_runs.specs.TightRuns.{IsTightRun, FinishesTight}
use Rattle.hyd_theorems_on_tight_runs.proofs.TwoRuns.{records_append, fronts, whole, next_valid, one_standing}
use Rattle.hyd_lemmas.proofs.ListsOptionsAndResults.{joined_append}

-- ---- fronts

-- a text between a head and an end begins a longer one with the same head
within : (head text behind last : List ℕ) → IsFrontOf (head ++ (text ++ [])) (head ++ ((text ++ behind) ++ last))
within head text behind last = (
  behind ++ last,
  ap (λ t. (head ++ t) ++ (behind ++ last)) (append-nil text) ∙ (append_assoc head text (behind ++ last)
      ∙ ap (λ t. head ++ t) (sym (append_assoc text behind last))),
)

-- ---- what was asked for

pub all_tight : (project : Project) (sharpness : Sharpness) → sharpness.tight ≡ true → (founds : List Found)
    → AllByRecursion (IsSharpFound project sharpness) founds → AllByRecursion (IsTightThroughout project) founds
all_tight project sharpness asked [] sharp = tt
all_tight project sharpness asked (found ∷ founds) sharp = (
  subst (λ (tight : Bool). MatchBool tight (IsTightThroughout project found)
      (IsTightThroughout project found
      ⊎ IsNarrow sharpness.width found.standing found.row found.next)) asked sharp.0,
  all_tight project sharpness asked founds sharp.1,
)

module _ (project : Project) where
  -- a finished run is tight
  pub tight_run : (text report : List ℕ) (is : FinishesTight project text report)
      → IsTightRun project is.writes.founds is.writes.left
  tight_run text report is = record {
    is_run = is.writes.is_run;
    tight = all_tight project is.sharpness is.asked is.writes.founds is.writes.sharp;
  }

  -- the texts of a finished run of these periods
  abbrev pub whole_certificate : List Found → List ℕ
  whole_certificate founds =
      certificate_text (version_of project) (junction_count project) (tank_count project) (rows_of founds)
      (length founds) true

  abbrev pub whole_report : List Found → List ℕ
  whole_report founds = report_text project (lines_of founds) (done_line (length founds))

  -- ---- one text

  one_list : (a b : List Found) (last other : Standing) → IsTightRun project a last → IsTightRun project b other
      → last.finished ≡ true → other.finished ≡ true → a ≡ b
  one_list a b last other x y finished too = of (fronts project a b last other x y)
    where
      of : IsFrontOf a b ⊎ IsFrontOf b a → a ≡ b
      of (inl k) = whole project a b last other x.is_run y.is_run finished k
      of (inr k) = sym (whole project b a other last y.is_run x.is_run too k)

  module _ (written printed text report : List ℕ) (a : FinishesTight project written printed)
      (b : FinishesTight project text report) where
    same_periods : a.writes.founds ≡ b.writes.founds
    same_periods =
        one_list a.writes.founds b.writes.founds a.writes.left b.writes.left (tight_run written printed a)
        (tight_run text report b) a.writes.ends_so b.writes.ends_so

    pub one_certificate : written ≡ text
    one_certificate =
        a.writes.certificate.is_text ∙ (ap (λ (fs : List Found). whole_certificate fs) same_periods
        ∙ sym b.writes.certificate.is_text)

    pub one_report : printed ≡ report
    one_report =
        a.writes.report ∙ (ap (λ (fs : List Found). whole_report fs) same_periods ∙ sym b.writes.report)

  -- ---- beside a finished run

  module _ (text report : List ℕ) (b : FinishesTight project text report) (founds : List Found) (left : Standing)
      (run : IsTightRun project founds left) where
    -- a tight run is a front of it
    pub begins : IsFrontOf founds b.writes.founds
    begins = of (fronts project founds b.writes.founds left b.writes.left run (tight_run text report b))
      where
        of : IsFrontOf founds b.writes.founds ⊎ IsFrontOf b.writes.founds founds → IsFrontOf founds b.writes.founds
        of (inl k) = k
        of (inr k) = (
          [],
          append-nil founds
              ∙ sym (whole project b.writes.founds founds b.writes.left left b.writes.is_run run.is_run
              b.writes.ends_so k),
        )

    -- and so it doesn't stop but by spent rounds
    pub never_stops : IsSound project → left.finished ≡ false → (rounds : ℕ) (cause : StopCause) → IsReason cause
        → Stops project left rounds cause → ⊥
    never_stops sound unfinished rounds cause reason stops = over begins
      where
        over : IsFrontOf founds b.writes.founds → ⊥
        over ([], e) =
            let same = sym (append-nil founds) ∙ e in
            let leaves = one_standing project founds b.writes.founds left b.writes.left run.is_run b.writes.is_run
            same in
            true≢false (sym b.writes.ends_so ∙ (ap (λ (s : Standing). s.finished) (sym leaves) ∙ unfinished))
        over (found ∷ rest, e) =
            let valid = next_valid project founds b.writes.founds found rest left b.writes.left run.is_run
            b.writes.is_run e in
            let keeps = run_keeps project sound founds left run.is_run in
            no_stop project sound left found.grid found.row found.next keeps.0 keeps.1 valid rounds cause reason stops

    pub certificate_begins : IsFrontOf (certificate_so_far project founds None) text
    certificate_begins =
        let rest = begins.0 in
        let head = header_line (version_of project) (junction_count project) (tank_count project) in
        let text_of = λ (rows : List Record). joined (map record_text rows) in
        let end = end_line (length b.writes.founds) true in
        let pieces : text_of (rows_of b.writes.founds) ≡ text_of (rows_of founds) ++ text_of (rows_of rest) =
        ap (λ (fs : List Found). text_of (rows_of fs)) (sym begins.1) ∙ (ap text_of (records_append founds rest)
        ∙ joined_append record_text (rows_of founds) (rows_of rest)) in
        let front = within head (text_of (rows_of founds)) (text_of (rows_of rest)) end in (
          front.0,
          front.1 ∙ (ap (λ t. head ++ (t ++ end)) (sym pieces) ∙ sym b.writes.certificate.is_text),
        )

    pub report_begins : IsFrontOf (report_so_far project left founds None) report
    report_begins =
        let rest = begins.0 in
        let head = line (codes "HYD" ∷ (decimal 1 ∷ [])) in
        let text_of = λ (lines : List ReportLine). joined (map (line_text project) lines) in
        let end = done_line (length b.writes.founds) in
        let pieces : text_of (lines_of b.writes.founds) ≡ text_of (lines_of founds) ++ text_of (lines_of rest) =
        ap (λ (fs : List Found). text_of (lines_of fs)) (sym begins.1)
        ∙ (ap text_of (joined_append (λ (f : Found). f.lines) founds rest)
        ∙ joined_append (line_text project) (lines_of founds) (lines_of rest)) in
        let front = within head (text_of (lines_of founds)) (text_of (lines_of rest)) end in (
          front.0,
          front.1 ∙ (ap (λ t. head ++ (t ++ end)) (sym pieces) ∙ sym b.writes.report),
        )
