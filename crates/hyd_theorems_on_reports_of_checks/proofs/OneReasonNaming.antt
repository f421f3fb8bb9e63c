-- A text with flows is refused for one reason, and so it has one report.
use Rattle.std.proofs.Common.{◌≡◌, ℕ, ◌⊎◌, inl, inr, List, [], ◌∷◌, ◌++◌, refl, sym, ap, ap₂, subst, ◌∙◌}
use Rattle.std.proofs.Common.{append_assoc, append-nil}
use Rattle.hyd_net.specs.Sound.{IsSound}
use Rattle.hyd_spec.specs.ProgramTypes.{Project}
use Rattle.hyd_spec.specs.NodeNumbers.{junction_count, tank_count}
use Rattle.hyd_spec_certificates.specs.CertificateText.{line_feeds}
use Rattle.hyd_spec_certificates.specs.RecordAndStanding.{Standing, initial_standing}
use Rattle.hyd_spec_certificates.specs.declared.CertRefused.{CertRefused}
use Rattle.hyd_spec_certificates.specs.RefusedRecords.{IsRefused}
use Rattle.hyd_spec_reports.specs.PromisesOfRunsAndChecks.{Found, rows_of}
use Rattle.hyd_spec_reports.specs.ReportLine.{refused_line, refused_end_line}
use Rattle.hyd_spec_flows.specs.FlowParts.{FlowPart, IsRefusedPart}
use Rattle.hyd_spec_flows.specs.FlowTexts.{Entry, rows_in}
use Rattle.hyd_spec_flows.specs.declared.FlowFails.{FlowFails}
use Rattle.hyd_spec_reports_with_flows.specs.FlowLines.{refused_flow_line}
use Rattle.hyd_spec_reports_with_flows.specs.PromisesWithFlows.{FoundNaming, founds_in, entries_of, report_with_flows}
use Rattle.hyd_spec_reports_with_flows.specs.PromisesWithFlows.{BeginsWithEntries, CheckAcceptsNaming}
use Rattle.hyd_spec_reports_with_flows.specs.PromisesWithFlows.{CheckRefusesNaming, CheckRefusesPart}
use Rattle.hyd_spec_reports_with_flows.specs.PromisesWithFlows.{CheckRefusesEndNaming}
use Rattle.hyd_sim.specs.RunView.{header_for}
use Rattle.hyd_theorems_on_definitions.proofs.OneRefusal.{one_refusal}
use Rattle.hyd_theorems_on_runs.proofs.OneRun.{one_left}
use Rattle.hyd_theorems_on_flows.proofs.OneCause.{one_cause as one_cause_of_part}
use Rattle.hyd_theorems_on_flow_texts.proofs.EntriesOfOneText.{one_reading, front_entries}
use Rattle.hyd_theorems_on_flow_texts.proofs.OneFaultWithFlows.{one_fault, fault_no_text, other_counts as not_of_others}
use Rattle.hyd_theorems_on_flow_texts.proofs.OneFaultWithFlows.{fault_or_counts}
use Rattle.hyd_spec_check_ends.specs.LinesOfRefusals.{refused_grammar_line, printed_number}
use Rattle.hyd_cert_check.specs.ChecksWithFlows.{BeginsWithNamings, CheckRefusesGrammarNaming}
use Rattle.hyd_cert_check.specs.ChecksWithFlows.{CheckRefusesCountsNaming, CheckRefusalNaming, CheckEndsNaming}
use Rattle.hyd_cert_check.specs.ChecksWithFlows.{grammar, counts, record_refused, part_refused, other_end}
use Rattle.hyd_spec_check_ends.specs.declared.CheckEnd.{CheckEnd}
use Rattle.hyd_spec_check_ends.specs.declared.CheckEnd.TheVariants.{Accepted, Refused}
use Rattle.hyd_theorems_on_checks.proofs.BeginningsOfLists.{Begins, both_ways, before_last, lasts}
use Rattle.hyd_theorems_on_checks.proofs.RunsByRecords.{one_by_records}
use Rattle.hyd_theorems_on_checks.proofs.RunsByEntries.{rows_are, one_by_entries}
use Rattle.hyd_theorems_on_checks.proofs.EntriesNotRefused.{no_refused_record, no_refused_part, run_with, rows_with}
use Rattle.hyd_theorems_on_checks.proofs.NeverRefusedNaming.{never_refused_naming, one_report_naming}
use Rattle.hyd_theorems_on_checks.proofs.WrittenAndAccepted.{accepted_naming_is}
use Rattle.hyd_theorems_on_reports_of_checks.specs.SameEnding.{HaveOneReasonNaming}
use Rattle.hyd_theorems_on_reports_of_checks.proofs.EntriesOfText.{compared_entries, fewer_entries, own_flows_header}

module _ (project : Project) (sound : IsSound project) (text : List ℕ) where
  -- ---- the entries of a text that is refused in a line

  module _ (printed : List ℕ) (g : CheckRefusesGrammarNaming project text printed) where
    -- no entry is left
    no_more : (entries more : List Entry) → BeginsWithEntries project text entries
        → entries ≡ entries_of g.namings ++ more → more ≡ []
    no_more entries [] begun e = refl
    no_more entries (entry ∷ more) begun e =
        absurd (g.all_entries entry (fewer_entries project text (entries_of g.namings ++ (entry ∷ [])) more
        (subst (BeginsWithEntries project text) (e ∙ sym (append_assoc (entries_of g.namings) (entry ∷ []) more)) begun)))

    by_compared : (entries : List Entry) → BeginsWithEntries project text entries
        → Begins (entries_of g.namings) entries ⊎ Begins entries (entries_of g.namings)
        → Begins entries (entries_of g.namings)
    by_compared entries begun (inl k) =
        let own = entries_of g.namings in
        let none = no_more entries k.more begun k.is in
        record {
          more = [];
          is = sym (append-nil entries ∙ (k.is ∙ (ap (λ t. own ++ t) none ∙ append-nil own)));
        }
    by_compared entries begun (inr k) = k

    -- whole entries with which it begins were found
    pub found_entries : (entries : List Entry) → BeginsWithEntries project text entries
        → Begins entries (entries_of g.namings)
    found_entries entries begun = by_begins g.begins
      where
        by_begins : BeginsWithNamings project g.namings text → Begins entries (entries_of g.namings)
        by_begins (inl none) =
            by_compared entries begun
            (inl (record { more = entries; is = ap (λ all. entries_of all ++ entries) (sym none) }))
        by_begins (inr own) = by_compared entries begun (compared_entries project text (entries_of g.namings) entries
            own begun)

    -- and so was what another check found
    pub found_namings : (namings : List FoundNaming) → BeginsWithNamings project namings text
        → Begins (entries_of namings) (entries_of g.namings)
    found_namings namings (inl none) =
        record { more = entries_of g.namings; is = ap (λ all. entries_of all ++ entries_of g.namings) (sym none) }
    found_namings namings (inr begun) = found_entries (entries_of namings) begun

  -- ---- a certificate but for its END line

  module _ (other : List ℕ) (b : CheckRefusesEndNaming project text other) where
    its_entries : (entries : List Entry) → BeginsWithEntries project text entries
        → Begins entries (entries_of b.namings)
    its_entries entries begun =
        let front = front_entries text begun.unread (junction_count project) (tank_count project) entries
        (entries_of b.namings) b.periods b.finished b.certificate begun.entries_fit begun.is_text in
        record { more = front.0; is = front.1 }

  -- ---- two reasons

  module _ (printed other : List ℕ) where
    two_lines : (a : CheckRefusesGrammarNaming project text printed) (b : CheckRefusesGrammarNaming project text other)
        → (a.number ≡ b.number) × (a.namings ≡ b.namings)
    two_lines a b = (
      one_fault (junction_count project) (tank_count project) text a.number b.number a.is_fault b.is_fault,
      one_by_entries project a.namings b.namings a.left b.left a.is_run b.is_run a.parts b.parts
          (both_ways (entries_of a.namings) (entries_of b.namings) (found_namings other b a.namings a.begins)
          (found_namings printed a b.namings b.begins)),
    )

    line_or_counts : CheckRefusesGrammarNaming project text printed → CheckRefusesCountsNaming project text other → ⊥
    line_or_counts a b =
        fault_or_counts (junction_count project) (tank_count project) text (header_for project) a.number refl refl
        a.is_fault b.other_counts

    line_or_record : (cause : CertRefused) → CheckRefusesGrammarNaming project text printed
        → CheckRefusesNaming project text other cause → ⊥
    line_or_record cause a b =
        no_refused_record project b.namings (founds_in a.namings) (entries_of a.namings) b.left a.left b.entry cause
        b.is_run b.refused a.is_run (sym (rows_are a.namings)) (found_entries printed a _ b.is_text)

    line_or_part : (cause : FlowFails) → CheckRefusesGrammarNaming project text printed
        → CheckRefusesPart project text other cause → ⊥
    line_or_part cause a b =
        no_refused_part project b.namings a.namings b.found b.part a.left cause b.is_run b.is_found b.refused a.is_run
        a.parts (found_entries printed a _ b.is_text)

    line_or_end : CheckRefusesGrammarNaming project text printed → CheckRefusesEndNaming project text other → ⊥
    line_or_end a b =
        fault_no_text (junction_count project) (tank_count project) text a.number a.is_fault (record {
          entries = entries_of b.namings;
          periods = b.periods;
          finished = b.finished;
          is_text = b.certificate;
        })

    counts_or_entries : (entries : List Entry) → CheckRefusesCountsNaming project text printed
        → BeginsWithEntries project text entries → ⊥
    counts_or_entries entries a begun =
        not_of_others (junction_count project) (tank_count project) text (header_for project) _ refl refl
        (own_flows_header project sound) a.other_counts begun.is_text

    counts_or_end : CheckRefusesCountsNaming project text printed → CheckRefusesEndNaming project text other → ⊥
    counts_or_end a b =
        let certificate = b.certificate in
        not_of_others (junction_count project) (tank_count project) text (header_for project) _ refl refl
        (own_flows_header project sound) a.other_counts certificate.is_text

    record_or_end : (cause : CertRefused) → CheckRefusesNaming project text printed cause
        → CheckRefusesEndNaming project text other → ⊥
    record_or_end cause a b =
        no_refused_record project a.namings (founds_in b.namings) (entries_of b.namings) a.left b.left a.entry cause
        a.is_run a.refused b.is_run (sym (rows_are b.namings)) (its_entries other b _ a.is_text)

    part_or_end : (cause : FlowFails) → CheckRefusesPart project text printed cause
        → CheckRefusesEndNaming project text other → ⊥
    part_or_end cause a b =
        no_refused_part project a.namings b.namings a.found a.part b.left cause a.is_run a.is_found a.refused b.is_run
        b.parts (its_entries other b _ a.is_text)

    two_ends : (a : CheckRefusesEndNaming project text printed) (b : CheckRefusesEndNaming project text other)
        → a.namings ≡ b.namings
    two_ends a b =
        one_by_entries project a.namings b.namings a.left b.left a.is_run b.is_run a.parts b.parts
        (one_reading text (junction_count project) (tank_count project) (entries_of a.namings) (entries_of b.namings)
        a.periods b.periods a.finished b.finished a.certificate b.certificate).0

    -- ---- records and parts

    abbrev entry_with : Found → FlowPart → Entry
    entry_with found part = record { row = found.row; part = part }

    -- a record that is refused isn't one that is valid and whose part is refused
    record_in_part : (cause : CertRefused) (second : FlowFails) (a : CheckRefusesNaming project text printed cause)
        (b : CheckRefusesPart project text other second)
        → Begins (entries_of a.namings ++ (a.entry ∷ [])) (entries_of b.namings ++ (entry_with b.found b.part ∷ []))
        → ⊥
    record_in_part cause second a b k =
        no_refused_record project a.namings (founds_in b.namings ++ (b.found ∷ []))
        (entries_of b.namings ++ (entry_with b.found b.part ∷ [])) a.left _ a.entry cause a.is_run a.refused
        (run_with project b.namings b.found b.is_run b.is_found) (rows_with project b.namings b.found b.part) k

    record_or_part : (cause : CertRefused) (second : FlowFails) → CheckRefusesNaming project text printed cause
        → CheckRefusesPart project text other second → ⊥
    record_or_part cause second a b = by_compared (compared_entries project text first last a.is_text b.is_text)
      where
        first : List Entry
        first = entries_of a.namings ++ (a.entry ∷ [])

        last : List Entry
        last = entries_of b.namings ++ (entry_with b.found b.part ∷ [])

        by_last : (last ≡ first) ⊎ Begins last (entries_of a.namings) → ⊥
        by_last (inl same) = record_in_part cause second a b (record { more = []; is = same ∙ sym (append-nil first) })
        by_last (inr k) = no_refused_part project b.namings a.namings b.found b.part a.left second b.is_run b.is_found
            b.refused a.is_run a.parts k

        by_compared : Begins first last ⊎ Begins last first → ⊥
        by_compared (inl k) = record_in_part cause second a b k
        by_compared (inr k) = by_last (before_last last (entries_of a.namings) a.entry k)

    -- what is found before the one record is found before the other
    record_in_front : (cause second : CertRefused) (a : CheckRefusesNaming project text printed cause)
        (b : CheckRefusesNaming project text other second)
        → Begins (entries_of a.namings ++ (a.entry ∷ [])) (entries_of b.namings ++ (b.entry ∷ []))
        → (entries_of a.namings ++ (a.entry ∷ [])) ≡ (entries_of b.namings ++ (b.entry ∷ []))
    record_in_front cause second a b k =
        by_last (before_last (entries_of a.namings ++ (a.entry ∷ [])) (entries_of b.namings) b.entry k)
      where
        by_last : ((entries_of a.namings ++ (a.entry ∷ [])) ≡ (entries_of b.namings ++ (b.entry ∷ [])))
            ⊎ Begins (entries_of a.namings ++ (a.entry ∷ [])) (entries_of b.namings)
            → (entries_of a.namings ++ (a.entry ∷ [])) ≡ (entries_of b.namings ++ (b.entry ∷ []))
        by_last (inl same) = same
        by_last (inr inside) =
            absurd (no_refused_record project a.namings (founds_in b.namings) (entries_of b.namings) a.left b.left
            a.entry cause a.is_run a.refused b.is_run (sym (rows_are b.namings)) inside)

    one_record : (cause second : CertRefused) (a : CheckRefusesNaming project text printed cause)
        (b : CheckRefusesNaming project text other second)
        → (entries_of a.namings ++ (a.entry ∷ [])) ≡ (entries_of b.namings ++ (b.entry ∷ []))
        → (cause ≡ second) × ((a.entry ≡ b.entry) × (a.namings ≡ b.namings))
    one_record cause second a b e =
        let k = lasts (entries_of a.namings) (entries_of b.namings) a.entry b.entry e in
        let namings = one_by_entries project a.namings b.namings a.left b.left a.is_run b.is_run a.parts b.parts k.0 in
        let left = one_left project (initial_standing project) (founds_in a.namings) (founds_in b.namings) a.left b.left
        a.is_run b.is_run (ap (λ (all : List FoundNaming). founds_in all) namings) in
        let there : IsRefused project a.left a.entry.row second =
        subst (λ (s : Standing). IsRefused project s a.entry.row second) (sym left)
        (subst (λ (one : Entry). IsRefused project b.left one.row second) (sym k.1) b.refused) in
        (one_refusal project a.left a.entry.row cause second a.refused there, (k.1, namings))

    part_in_front : (cause second : FlowFails) (a : CheckRefusesPart project text printed cause)
        (b : CheckRefusesPart project text other second)
        → Begins (entries_of a.namings ++ (entry_with a.found a.part ∷ []))
        (entries_of b.namings ++ (entry_with b.found b.part ∷ []))
        → (entries_of a.namings ++ (entry_with a.found a.part ∷ []))
        ≡ (entries_of b.namings ++ (entry_with b.found b.part ∷ []))
    part_in_front cause second a b k = by_last (before_last (entries_of a.namings ++ (entry_with a.found a.part ∷ []))
        (entries_of b.namings) (entry_with b.found b.part) k)
      where
        by_last : ((entries_of a.namings ++ (entry_with a.found a.part ∷ []))
            ≡ (entries_of b.namings ++ (entry_with b.found b.part ∷ [])))
            ⊎ Begins (entries_of a.namings ++ (entry_with a.found a.part ∷ [])) (entries_of b.namings)
            → (entries_of a.namings ++ (entry_with a.found a.part ∷ []))
            ≡ (entries_of b.namings ++ (entry_with b.found b.part ∷ []))
        by_last (inl same) = same
        by_last (inr inside) =
            absurd (no_refused_part project a.namings b.namings a.found a.part b.found.standing cause a.is_run a.is_found
            a.refused b.is_run b.parts inside)

    one_part : (cause second : FlowFails) (a : CheckRefusesPart project text printed cause)
        (b : CheckRefusesPart project text other second)
        → (entries_of a.namings ++ (entry_with a.found a.part ∷ []))
        ≡ (entries_of b.namings ++ (entry_with b.found b.part ∷ []))
        → (cause ≡ second) × ((a.found ≡ b.found) × ((a.part ≡ b.part) × (a.namings ≡ b.namings)))
    one_part cause second a b e =
        let k = lasts (entries_of a.namings) (entries_of b.namings) (entry_with a.found a.part)
        (entry_with b.found b.part) e in
        let namings = one_by_entries project a.namings b.namings a.found.standing b.found.standing a.is_run b.is_run
        a.parts b.parts k.0 in
        let part : a.part ≡ b.part = ap (λ (one : Entry). one.part) k.1 in
        let rows : rows_of (founds_in a.namings ++ (a.found ∷ [])) ≡ rows_of (founds_in b.namings ++ (b.found ∷ [])) =
        sym (rows_with project a.namings a.found a.part) ∙ (ap rows_in e ∙ rows_with project b.namings b.found b.part)
        in
        let founds = one_by_records project (initial_standing project) (founds_in a.namings ++ (a.found ∷ []))
        (founds_in b.namings ++ (b.found ∷ [])) a.found.next b.found.next
        (run_with project a.namings a.found a.is_run a.is_found)
        (run_with project b.namings b.found b.is_run b.is_found) rows in
        let found = (lasts (founds_in a.namings) (founds_in b.namings) a.found b.found founds).1 in
        let there : IsRefusedPart a.found.grid a.found.row a.part second =
        subst (λ (f : Found). IsRefusedPart f.grid f.row a.part second) (sym found)
        (subst (λ (p : FlowPart). IsRefusedPart b.found.grid b.found.row p second) (sym part) b.refused) in (
          one_cause_of_part a.found.grid a.found.row a.part cause second a.refused there,
          (found, (part, namings)),
        )

  module _ (printed other : List ℕ) where
    two_records : (cause second : CertRefused) (a : CheckRefusesNaming project text printed cause)
        (b : CheckRefusesNaming project text other second)
        → (cause ≡ second) × ((a.entry ≡ b.entry) × (a.namings ≡ b.namings))
    two_records cause second a b = one_record printed other cause second a b
        (by_compared (compared_entries project text _ _ a.is_text b.is_text))
      where
        by_compared : Begins (entries_of a.namings ++ (a.entry ∷ [])) (entries_of b.namings ++ (b.entry ∷ []))
            ⊎ Begins (entries_of b.namings ++ (b.entry ∷ [])) (entries_of a.namings ++ (a.entry ∷ []))
            → (entries_of a.namings ++ (a.entry ∷ [])) ≡ (entries_of b.namings ++ (b.entry ∷ []))
        by_compared (inl k) = record_in_front printed other cause second a b k
        by_compared (inr k) = sym (record_in_front other printed second cause b a k)

    two_parts : (cause second : FlowFails) (a : CheckRefusesPart project text printed cause)
        (b : CheckRefusesPart project text other second)
        → (cause ≡ second) × ((a.found ≡ b.found) × ((a.part ≡ b.part) × (a.namings ≡ b.namings)))
    two_parts cause second a b = one_part printed other cause second a b
        (by_compared (compared_entries project text _ _ a.is_text b.is_text))
      where
        first : List Entry
        first = entries_of a.namings ++ (entry_with printed other a.found a.part ∷ [])

        last : List Entry
        last = entries_of b.namings ++ (entry_with printed other b.found b.part ∷ [])

        by_compared : Begins first last ⊎ Begins last first → first ≡ last
        by_compared (inl k) = part_in_front printed other cause second a b k
        by_compared (inr k) = sym (part_in_front other printed second cause b a k)

    -- ---- one reason, and one report

    abbrev HaveOneReport : CheckRefusalNaming project text printed → CheckRefusalNaming project text other → Type 0
    HaveOneReport a b = HaveOneReasonNaming project text printed other a b × (printed ≡ other)

    same_line : (a : CheckRefusesGrammarNaming project text printed) (b : CheckRefusesGrammarNaming project text other)
        → HaveOneReport (grammar a) (grammar b)
    same_line a b =
        let k = two_lines printed other a b in (
          k,
          a.report ∙ (ap₂ (λ (n : ℕ) (all : List FoundNaming). report_with_flows project all
              (refused_grammar_line (printed_number n))) k.0 k.1 ∙ sym b.report),
        )

    same_record : (cause second : CertRefused) (a : CheckRefusesNaming project text printed cause)
        (b : CheckRefusesNaming project text other second)
        → HaveOneReport (record_refused cause a) (record_refused second b)
    same_record cause second a b =
        let k = two_records cause second a b in (
          k,
          a.report ∙ (ap₂ (λ (c : CertRefused) (all : List FoundNaming). report_with_flows project all
              (refused_line project c)) k.0 k.1.1 ∙ sym b.report),
        )

    same_part : (cause second : FlowFails) (a : CheckRefusesPart project text printed cause)
        (b : CheckRefusesPart project text other second)
        → HaveOneReport (part_refused cause a) (part_refused second b)
    same_part cause second a b =
        let k = two_parts cause second a b in
        let number : a.found.row.number ≡ b.found.row.number = ap (λ (f : Found). f.row.number) k.1.0 in
        let line = ap₂ (λ (n : ℕ) (c : FlowFails). refused_flow_line project n c) number k.0 in (
          k,
          a.report ∙ (ap₂ (λ (l : List ℕ) (all : List FoundNaming). report_with_flows project all l) line k.1.1.1
              ∙ sym b.report),
        )

    same_last_line : (a : CheckRefusesEndNaming project text printed) (b : CheckRefusesEndNaming project text other)
        → HaveOneReport (other_end a) (other_end b)
    same_last_line a b =
        let k = two_ends printed other a b in (
          k,
          a.report ∙ (ap (λ (all : List FoundNaming). report_with_flows project all
              (refused_end_line (line_feeds text))) k ∙ sym b.report),
        )

    pub one_refusal_naming : (a : CheckRefusalNaming project text printed) (b : CheckRefusalNaming project text other)
        → HaveOneReport a b
    one_refusal_naming (grammar a) (grammar b) = same_line a b
    one_refusal_naming (grammar a) (counts b) = absurd (line_or_counts printed other a b)
    one_refusal_naming (grammar a) (record_refused cause b) = absurd (line_or_record printed other cause a b)
    one_refusal_naming (grammar a) (part_refused cause b) = absurd (line_or_part printed other cause a b)
    one_refusal_naming (grammar a) (other_end b) = absurd (line_or_end printed other a b)
    one_refusal_naming (counts a) (grammar b) = absurd (line_or_counts other printed b a)
    one_refusal_naming (counts a) (counts b) = (tt, a.report ∙ sym b.report)
    one_refusal_naming (counts a) (record_refused cause b) = absurd (counts_or_entries printed other _ a b.is_text)
    one_refusal_naming (counts a) (part_refused cause b) = absurd (counts_or_entries printed other _ a b.is_text)
    one_refusal_naming (counts a) (other_end b) = absurd (counts_or_end printed other a b)
    one_refusal_naming (record_refused cause a) (grammar b) = absurd (line_or_record other printed cause b a)
    one_refusal_naming (record_refused cause a) (counts b) = absurd (counts_or_entries other printed _ b a.is_text)
    one_refusal_naming (record_refused cause a) (record_refused second b) = same_record cause second a b
    one_refusal_naming (record_refused cause a) (part_refused second b) =
        absurd (record_or_part printed other cause second a b)
    one_refusal_naming (record_refused cause a) (other_end b) = absurd (record_or_end printed other cause a b)
    one_refusal_naming (part_refused cause a) (grammar b) = absurd (line_or_part other printed cause b a)
    one_refusal_naming (part_refused cause a) (counts b) = absurd (counts_or_entries other printed _ b a.is_text)
    one_refusal_naming (part_refused cause a) (record_refused second b) =
        absurd (record_or_part other printed second cause b a)
    one_refusal_naming (part_refused cause a) (part_refused second b) = same_part cause second a b
    one_refusal_naming (part_refused cause a) (other_end b) = absurd (part_or_end printed other cause a b)
    one_refusal_naming (other_end a) (grammar b) = absurd (line_or_end other printed b a)
    one_refusal_naming (other_end a) (counts b) = absurd (counts_or_end other printed b a)
    one_refusal_naming (other_end a) (record_refused cause b) = absurd (record_or_end other printed cause b a)
    one_refusal_naming (other_end a) (part_refused cause b) = absurd (part_or_end other printed cause b a)
    one_refusal_naming (other_end a) (other_end b) = same_last_line a b

    -- ---- one answer

    accepted_or_refused : CheckAcceptsNaming project text printed → CheckRefusalNaming project text other → ⊥
    accepted_or_refused a b = never_refused_naming project text other (accepted_naming_is project text printed a) b

    two_accepted : CheckAcceptsNaming project text printed → CheckAcceptsNaming project text other → printed ≡ other
    two_accepted a b =
        one_report_naming project text printed (record {
          namings = b.namings;
          left = b.left;
          is_run = b.is_run;
          parts = b.parts;
          certificate = b.certificate;
        }) a ∙ sym b.report

  module _ (printed other : List ℕ) where
    pub one_answer_naming : (a b : CheckEnd) → CheckEndsNaming project text printed a
        → CheckEndsNaming project text other b → (a ≡ b) × (printed ≡ other)
    one_answer_naming Accepted Accepted x y = (refl, two_accepted printed other x y)
    one_answer_naming Accepted Refused x y = absurd (accepted_or_refused printed other x y)
    one_answer_naming Refused Accepted x y = absurd (accepted_or_refused other printed y x)
    one_answer_naming Refused Refused x y = (refl, (one_refusal_naming printed other x y).1)
