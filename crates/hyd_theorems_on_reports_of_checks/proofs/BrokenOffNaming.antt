-- What a check of a text with flows found so far is a front of the one report of that text.
use Rattle.std.proofs.Common.{◌≡◌, ℕ, ◌⊎◌, inl, inr, List, [], ◌∷◌, ◌++◌, map, length, refl, sym, ap, ◌∙◌, append_assoc}
use Rattle.std.proofs.Common.{append-nil, Bool, codes}
use Rattle.std.specs.Fmt.{decimal}
use Rattle.std.specs.List.{AllByRecursion}
use Rattle.hyd_net.specs.Sound.{IsSound}
use Rattle.hyd_spec.specs.ProgramTypes.{Project}
use Rattle.hyd_spec.specs.Lists.{joined, IsFrontOf}
use Rattle.hyd_spec.specs.NodeNumbers.{junction_count, tank_count}
use Rattle.hyd_spec_certificates.specs.CertificateText.{line}
use Rattle.hyd_spec_certificates.specs.RecordAndStanding.{Standing}
use Rattle.hyd_spec_certificates.specs.declared.CertRefused.{CertRefused}
use Rattle.hyd_spec_reports.specs.PromisesOfRunsAndChecks.{IsRun}
use Rattle.hyd_spec_flows.specs.FlowTexts.{Entry, IsTextWithFlows}
use Rattle.hyd_spec_flows.specs.declared.FlowFails.{FlowFails}
use Rattle.hyd_spec_reports_with_flows.specs.PromisesWithFlows.{FoundNaming, IsFoundNaming, founds_in, entries_of}
use Rattle.hyd_spec_reports_with_flows.specs.PromisesWithFlows.{period_text, report_with_flows, BeginsWithEntries}
use Rattle.hyd_spec_reports_with_flows.specs.PromisesWithFlows.{CheckAcceptsNaming, CheckRefusesNaming}
use Rattle.hyd_spec_reports_with_flows.specs.PromisesWithFlows.{CheckRefusesPart, CheckRefusesEndNaming}
use Rattle.hyd_sim.specs.RunView.{header_for}
use Rattle.hyd_lemmas.proofs.ListsOptionsAndResults.{joined_append}
use Rattle.hyd_theorems_on_flow_texts.proofs.EntriesOfOneText.{front_entries}
use Rattle.hyd_theorems_on_flow_texts.proofs.OneFaultWithFlows.{other_counts as not_of_others}
use Rattle.hyd_spec_check_ends.specs.LinesOfRefusals.{refused_counts_line}
use Rattle.hyd_cert_check.specs.ChecksWithFlows.{BeginsWithNamings, CheckRefusesGrammarNaming, CheckFindsNaming}
use Rattle.hyd_cert_check.specs.ChecksWithFlows.{CheckRefusesCountsNaming, CheckRefusalNaming, CheckEndsNaming}
use Rattle.hyd_cert_check.specs.ChecksWithFlows.{grammar, counts, record_refused, part_refused, other_end}
use Rattle.hyd_spec_check_ends.specs.declared.CheckEnd.{CheckEnd}
use Rattle.hyd_spec_check_ends.specs.declared.CheckEnd.TheVariants.{Accepted, Refused}
use Rattle.hyd_theorems_on_checks.proofs.BeginningsOfLists.{Begins, before_last}
use Rattle.hyd_theorems_on_checks.proofs.RunsByEntries.{rows_are, begins_with_namings}
use Rattle.hyd_theorems_on_checks.proofs.EntriesNotRefused.{no_refused_record, no_refused_part}
use Rattle.hyd_theorems_on_reports_of_checks.proofs.EntriesOfText.{compared_entries, own_flows_header}
use Rattle.hyd_theorems_on_reports_of_checks.proofs.OneReasonNaming.{found_namings}

module _ (project : Project) where
  -- a report of some periods is a front of one of more
  longer : (namings more : List FoundNaming) (last : List ℕ)
      → IsFrontOf (report_with_flows project namings []) (report_with_flows project (namings ++ more) last)
  longer namings more last =
      let head = line (codes "HYD" ∷ (decimal 1 ∷ [])) in
      let a = joined (map (period_text project) namings) in
      let b = joined (map (period_text project) more) in (
        b ++ last,
        ap (λ t. (head ++ t) ++ (b ++ last)) (append-nil a) ∙ (append_assoc head a (b ++ last)
            ∙ ap (λ t. head ++ t) (sym (append_assoc a b last)
            ∙ ap (λ t. t ++ last) (sym (joined_append (period_text project) namings more)))),
      )

  module _ (sound : IsSound project) (text report whole : List ℕ) (f : CheckFindsNaming project text report) where
    abbrev so_far : List ℕ
    so_far = report_with_flows project f.namings []

    -- by the runs
    by_runs : (namings : List FoundNaming) (left : Standing) (last : List ℕ) → IsRun project (founds_in namings) left
        → AllByRecursion (IsFoundNaming project) namings → Begins (entries_of f.namings) (entries_of namings)
        → whole ≡ report_with_flows project namings last → IsFrontOf so_far whole
    by_runs namings left last run parts k e =
        let runs = begins_with_namings project f.namings namings f.left left f.is_run run f.parts parts k in
        let front = longer f.namings runs.more last in
        (front.0, front.1 ∙ (ap (λ all. report_with_flows project all last) (sym runs.is) ∙ sym e))

    -- nothing found begins with anything
    none_found : (entries : List Entry) → f.namings ≡ [] → Begins (entries_of f.namings) entries
    none_found entries none = record { more = entries; is = ap (λ all. entries_of all ++ entries) (sym none) }

    by_certificate : (entries : List Entry) (periods : ℕ) (finished : Bool)
        → IsTextWithFlows text (junction_count project) (tank_count project) entries periods finished
        → Begins (entries_of f.namings) entries
    by_certificate entries periods finished certificate = by_begins f.begins
      where
        by_begins : BeginsWithNamings project f.namings text → Begins (entries_of f.namings) entries
        by_begins (inl none) = none_found entries none
        by_begins (inr begun) =
            let front = front_entries text begun.unread (junction_count project) (tank_count project)
            (entries_of f.namings) entries periods finished certificate begun.entries_fit begun.is_text in
            record { more = front.0; is = front.1 }

    in_accepted : CheckAcceptsNaming project text whole → IsFrontOf so_far whole
    in_accepted a = by_runs a.namings a.left _ a.is_run a.parts
        (by_certificate (entries_of a.namings) (length a.namings) a.left.finished a.certificate) a.report

    in_grammar : CheckRefusesGrammarNaming project text whole → IsFrontOf so_far whole
    in_grammar a = by_runs a.namings a.left _ a.is_run a.parts
        (found_namings project sound text whole a f.namings f.begins) a.report

    -- nothing is found of a text with other counts
    nothing_found : CheckRefusesCountsNaming project text whole → BeginsWithNamings project f.namings text
        → f.namings ≡ []
    nothing_found a (inl none) = none
    nothing_found a (inr begun) =
        absurd (not_of_others (junction_count project) (tank_count project) text (header_for project) _ refl refl
        (own_flows_header project sound) a.other_counts begun.is_text)

    in_counts : CheckRefusesCountsNaming project text whole → IsFrontOf so_far whole
    in_counts a =
        let front = longer [] [] (refused_counts_line 1) in (
          front.0,
          ap (λ (all : List FoundNaming). report_with_flows project all [] ++ front.0) (nothing_found a f.begins)
              ∙ (front.1 ∙ sym a.report),
        )

    -- what was found ends before an entry that isn't one of a run
    before_entry : (entries : List Entry) (entry : Entry) → BeginsWithEntries project text (entries ++ (entry ∷ []))
        → (Begins (entries ++ (entry ∷ [])) (entries_of f.namings) → ⊥) → Begins (entries_of f.namings) entries
    before_entry entries entry is_text none = by_begins f.begins
      where
        by_last : ((entries_of f.namings) ≡ (entries ++ (entry ∷ []))) ⊎ Begins (entries_of f.namings) entries
            → Begins (entries_of f.namings) entries
        by_last (inl same) = absurd (none (record { more = []; is = same ∙ sym (append-nil _) }))
        by_last (inr k) = k

        by_compared : Begins (entries_of f.namings) (entries ++ (entry ∷ []))
            ⊎ Begins (entries ++ (entry ∷ [])) (entries_of f.namings) → Begins (entries_of f.namings) entries
        by_compared (inl k) = by_last (before_last (entries_of f.namings) entries entry k)
        by_compared (inr k) = absurd (none k)

        by_begins : BeginsWithNamings project f.namings text → Begins (entries_of f.namings) entries
        by_begins (inl none) = none_found entries none
        by_begins (inr begun) =
            by_compared (compared_entries project text (entries_of f.namings) (entries ++ (entry ∷ [])) begun is_text)

    in_record : (cause : CertRefused) → CheckRefusesNaming project text whole cause → IsFrontOf so_far whole
    in_record cause a =
        by_runs a.namings a.left _ a.is_run a.parts
        (before_entry (entries_of a.namings) a.entry a.is_text
        (no_refused_record project a.namings (founds_in f.namings) (entries_of f.namings) a.left f.left a.entry cause
        a.is_run a.refused f.is_run (sym (rows_are f.namings)))) a.report

    in_part : (cause : FlowFails) → CheckRefusesPart project text whole cause → IsFrontOf so_far whole
    in_part cause a =
        by_runs a.namings a.found.standing _ a.is_run a.parts
        (before_entry (entries_of a.namings) (record { row = a.found.row; part = a.part }) a.is_text
        (no_refused_part project a.namings f.namings a.found a.part f.left cause a.is_run a.is_found a.refused f.is_run
        f.parts)) a.report

    in_end : CheckRefusesEndNaming project text whole → IsFrontOf so_far whole
    in_end a = by_runs a.namings a.left _ a.is_run a.parts
        (by_certificate (entries_of a.namings) a.periods a.finished a.certificate) a.report

    in_refused : CheckRefusalNaming project text whole → IsFrontOf so_far whole
    in_refused (grammar a) = in_grammar a
    in_refused (counts a) = in_counts a
    in_refused (record_refused cause a) = in_record cause a
    in_refused (part_refused cause a) = in_part cause a
    in_refused (other_end a) = in_end a

    in_whole : (end : CheckEnd) → CheckEndsNaming project text whole end → IsFrontOf so_far whole
    in_whole Accepted ends = in_accepted ends
    in_whole Refused ends = in_refused ends

  -- what was found so far is a front
  pub found_front_naming : IsSound project → (text printed unprinted whole : List ℕ) (end : CheckEnd)
      → CheckFindsNaming project text (printed ++ unprinted) → CheckEndsNaming project text whole end
      → IsFrontOf printed whole
  found_front_naming sound text printed unprinted whole end f ends =
      let front = in_whole sound text (printed ++ unprinted) whole f end ends in (
        unprinted ++ front.0,
        sym (append_assoc printed unprinted front.0) ∙ (ap (λ t. t ++ front.0) f.report_so_far ∙ front.1),
      )
