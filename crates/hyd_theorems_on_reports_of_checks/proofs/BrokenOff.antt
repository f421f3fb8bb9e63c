-- What a check of a text without flows found so far is a front of the one report of that text.
use Rattle.std.proofs.Common.{◌≡◌, ℕ, ◌⊎◌, inl, inr, List, [], ◌∷◌, ◌++◌, map, sym, ap, ◌∙◌, append_assoc}
use Rattle.std.proofs.Common.{append-nil, Bool, codes}
use Rattle.std.specs.Fmt.{decimal}
use Rattle.hyd_net.specs.Sound.{IsSound}
use Rattle.hyd_spec.specs.ProgramTypes.{Project}
use Rattle.hyd_spec.specs.Lists.{joined, IsFrontOf}
use Rattle.hyd_spec.specs.NodeNumbers.{junction_count, tank_count}
use Rattle.hyd_spec_certificates.specs.RecordAndStanding.{Record, Standing, initial_standing}
use Rattle.hyd_spec_certificates.specs.CertificateText.{line, version_of}
use Rattle.hyd_spec_certificates.specs.CertificateText.{IsCertificateText}
use Rattle.hyd_spec_reports.specs.ReportLine.{ReportLine, report_text, line_text}
use Rattle.hyd_spec_certificates.specs.declared.CertRefused.{CertRefused}
use Rattle.hyd_spec_reports.specs.PromisesOfRunsAndChecks.{Found, IsRun, rows_of, lines_of, CheckAccepts, CheckRefuses}
use Rattle.hyd_spec_reports.specs.PromisesOfRunsAndChecks.{CheckRefusesEnd}
use Rattle.hyd_spec_check_ends.specs.LinesOfRefusals.{refused_counts_line}
use Rattle.hyd_cert_check.specs.Checks.{BeginsWithFound, CheckEndsPlainly, CheckFindsPlainly}
use Rattle.hyd_cert_check.specs.Checks.{CheckRefusesGrammar, CheckRefusesCounts, CheckRefusal}
use Rattle.hyd_cert_check.specs.Checks.{grammar, counts, record_refused, other_end}
use Rattle.hyd_spec_check_ends.specs.declared.CheckEnd.{CheckEnd}
use Rattle.hyd_spec_check_ends.specs.declared.CheckEnd.TheVariants.{Accepted, Refused}
use Rattle.hyd_theorems_on_checks.proofs.RecordsNotRefused.{none_refused}
use Rattle.hyd_theorems_on_reports_of_checks.proofs.RecordsOfOneText.{compared, other_header}
use Rattle.hyd_theorems_on_checks.proofs.FirstRecords.{first_rows}
use Rattle.hyd_theorems_on_checks.proofs.BeginningsOfLists.{Begins, before_last}
use Rattle.hyd_theorems_on_reports_of_checks.proofs.OneReason.{found_first}
use Rattle.hyd_theorems_on_checks.proofs.RunsByRecords.{begins_with}
use Rattle.hyd_lemmas.proofs.ListsOptionsAndResults.{joined_append}

module _ (project : Project) where
  -- a report of some periods is a front of one of more
  longer : (founds more : List Found) (last : List ℕ)
      → IsFrontOf (report_text project (lines_of founds) []) (report_text project (lines_of (founds ++ more)) last)
  longer founds more last =
      let head = line (codes "HYD" ∷ (decimal 1 ∷ [])) in
      let text = λ (lines : List ReportLine). joined (map (line_text project) lines) in
      let a = text (lines_of founds) in
      let b = text (lines_of more) in
      let both : text (lines_of (founds ++ more)) ≡ a ++ b =
      ap text (joined_append (λ (f : Found). f.lines) founds more)
      ∙ joined_append (line_text project) (lines_of founds) (lines_of more) in (
        b ++ last,
        ap (λ t. (head ++ t) ++ (b ++ last)) (append-nil a) ∙ (append_assoc head a (b ++ last)
            ∙ ap (λ t. head ++ t) (sym (append_assoc a b last) ∙ ap (λ t. t ++ last) (sym both))),
      )

  module _ (sound : IsSound project) (text : List ℕ) where
    -- by the runs
    by_runs : (a b : List Found) (left other : Standing) (last whole : List ℕ) → IsRun project a left
        → IsRun project b other → Begins (rows_of a) (rows_of b) → whole ≡ report_text project (lines_of b) last
        → IsFrontOf (report_text project (lines_of a) []) whole
    by_runs a b left other last whole x y k e =
        let runs = begins_with project (initial_standing project) a b k.more left other x y k.is in
        let front = longer a runs.more last in
        (front.0, front.1 ∙ (ap (λ fs. report_text project (lines_of fs) last) (sym runs.is) ∙ sym e))

    module _ (report whole : List ℕ) (f : CheckFindsPlainly project text report) where
      by_certificate : (rows : List Record) (periods : ℕ) (finished : Bool)
          → IsCertificateText text (version_of project) (junction_count project) (tank_count project) rows periods
          finished
          → Begins (rows_of f.founds) rows
      by_certificate rows periods finished certificate = by_begins f.begins
        where
          by_begins : BeginsWithFound project f.founds text → Begins (rows_of f.founds) rows
          by_begins (inl none) = record { more = rows; is = ap (λ fs. rows_of fs ++ rows) (sym none) }
          by_begins (inr begun) =
              let k = first_rows text begun.0 (version_of project) (junction_count project) (tank_count project) periods
              rows (rows_of f.founds) finished certificate f.rows_fit begun.1 in
              record { more = k.0; is = k.1 }

      in_accepted : CheckAccepts project text whole → IsFrontOf (report_text project (lines_of f.founds) []) whole
      in_accepted a =
          by_runs f.founds a.founds f.left a.left _ whole f.is_run a.is_run
          (by_certificate (rows_of a.founds) _ a.left.finished a.certificate) a.report

      in_grammar : CheckRefusesGrammar project text whole
          → IsFrontOf (report_text project (lines_of f.founds) []) whole
      in_grammar a =
          by_runs f.founds a.founds f.left a.left _ whole f.is_run a.is_run
          (found_first project sound text whole a f.founds f.rows_fit f.begins) a.report

      -- nothing is found of a text with another header line
      none_found : CheckRefusesCounts project text whole → BeginsWithFound project f.founds text → f.founds ≡ []
      none_found a (inl none) = none
      none_found a (inr begun) =
          absurd (other_header project sound text begun.0 (rows_of f.founds) a.other_header begun.1)

      in_counts : CheckRefusesCounts project text whole → IsFrontOf (report_text project (lines_of f.founds) []) whole
      in_counts a =
          let front = longer [] [] (refused_counts_line 1) in (
            front.0,
            ap (λ (fs : List Found). report_text project (lines_of fs) [] ++ front.0) (none_found a f.begins)
                ∙ (front.1 ∙ sym a.report),
          )

      -- the record that is refused wasn't found
      before_refused : (cause : CertRefused) (a : CheckRefuses project text whole cause)
          → Begins (rows_of f.founds) (rows_of a.founds)
      before_refused cause a = by_begins f.begins
        where
          through : Begins (rows_of a.founds ++ (a.row ∷ [])) (rows_of f.founds) → ⊥
          through k = none_refused project a.founds f.founds a.left f.left a.row cause a.is_run a.refused
              f.is_run k

          by_last : ((rows_of f.founds) ≡ (rows_of a.founds ++ (a.row ∷ []))) ⊎ Begins (rows_of f.founds)
              (rows_of a.founds) → Begins (rows_of f.founds) (rows_of a.founds)
          by_last (inl same) = absurd (through (record { more = []; is = same ∙ sym (append-nil _) }))
          by_last (inr k) = k

          by_compared : Begins (rows_of f.founds) (rows_of a.founds ++ (a.row ∷ []))
              ⊎ Begins (rows_of a.founds ++ (a.row ∷ [])) (rows_of f.founds)
              → Begins (rows_of f.founds) (rows_of a.founds)
          by_compared (inl k) = by_last (before_last (rows_of f.founds) (rows_of a.founds) a.row k)
          by_compared (inr k) = absurd (through k)

          by_begins : BeginsWithFound project f.founds text → Begins (rows_of f.founds) (rows_of a.founds)
          by_begins (inl none) =
              record { more = rows_of a.founds; is = ap (λ fs. rows_of fs ++ rows_of a.founds) (sym none) }
          by_begins (inr begun) =
              by_compared (compared project sound text begun.0 a.unread (rows_of f.founds)
              (rows_of a.founds ++ (a.row ∷ [])) f.rows_fit a.rows_fit begun.1 a.is_text)

      in_record : (cause : CertRefused) → CheckRefuses project text whole cause
          → IsFrontOf (report_text project (lines_of f.founds) []) whole
      in_record cause a =
          by_runs f.founds a.founds f.left a.left _ whole f.is_run a.is_run (before_refused cause a) a.report

      in_end : CheckRefusesEnd project text whole → IsFrontOf (report_text project (lines_of f.founds) []) whole
      in_end a =
          by_runs f.founds a.founds f.left a.left _ whole f.is_run a.is_run
          (by_certificate (rows_of a.founds) a.periods a.finished a.certificate) a.report

      in_refused : CheckRefusal project text whole → IsFrontOf (report_text project (lines_of f.founds) []) whole
      in_refused (grammar a) = in_grammar a
      in_refused (counts a) = in_counts a
      in_refused (record_refused cause a) = in_record cause a
      in_refused (other_end a) = in_end a

      in_whole : (end : CheckEnd) → CheckEndsPlainly project text whole end
          → IsFrontOf (report_text project (lines_of f.founds) []) whole
      in_whole Accepted ends = in_accepted ends
      in_whole Refused ends = in_refused ends

    -- what was found so far is a front
    pub found_front : (printed unprinted whole : List ℕ) (end : CheckEnd)
        → CheckFindsPlainly project text (printed ++ unprinted) → CheckEndsPlainly project text whole end
        → IsFrontOf printed whole
    found_front printed unprinted whole end f ends =
        let front = in_whole (printed ++ unprinted) whole f end ends in (
          unprinted ++ front.0,
          sym (append_assoc printed unprinted front.0) ∙ (ap (λ t. t ++ front.0) f.report_so_far ∙ front.1),
        )
