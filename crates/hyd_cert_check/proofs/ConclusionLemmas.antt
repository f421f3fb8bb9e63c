-- What is found where the records end, as of the whole text, with flows or without.
use Rattle.std.proofs.Common.{◌≡◌, ℕ, suc, ◌+◌, ◌*◌, ◌<◌, ◌≤◌, ◌^◌, Bool, true, false, List, [], ◌∷◌, ◌++◌}
use Rattle.std.proofs.Common.{length, map, All, Option, Some, inl, inr, refl, sym, ap, subst, ◌∙◌, arith}
use Rattle.std.proofs.Common.{append_assoc, append-nil, mul-le-mul}
use Rattle.std.specs.List.{AllByRecursion}
use Rattle.std.proofs.lemmas.List.{append_cancel_left, length-map}
use Rattle.std.proofs.lemmas.List.Elements.{All-head, All-tail}
use Rattle.hyd_io.specs.DeskBytes.{prepend_known}
use Rattle.hyd_net.specs.Sound.{IsSound}
use Rattle.hyd_spec.specs.ProgramTypes.{Project}
use Rattle.hyd_spec.specs.Lists.{joined}
use Rattle.hyd_spec.specs.NodeNumbers.{junction_count, tank_count}
use Rattle.hyd_spec_certificates.specs.PeriodNetwork.{Grid}
use Rattle.hyd_spec_certificates.specs.RecordAndStanding.{Record, Standing}
use Rattle.hyd_spec_certificates.specs.CertificateText.{record_text, end_line, line_feeds, header_line}
use Rattle.hyd_spec_certificates.specs.declared.CertRefused.{CertRefused}
use Rattle.hyd_spec_reports.specs.PromisesOfRunsAndChecks.{IsRun, rows_of}
use Rattle.hyd_spec_flows.specs.FlowParts.{FlowPart, IsRefusedPart}
use Rattle.hyd_spec_flows.specs.FlowTexts.{Entry, entry_text, is_with_flows, flows_version}
use Rattle.hyd_spec_reports_with_flows.specs.PromisesWithFlows.{FoundNaming, IsFoundNaming, founds_in, entry_of}
use Rattle.hyd_spec_reports_with_flows.specs.PromisesWithFlows.{entries_of}
use Rattle.hyd_spec_reports_with_flows.specs.PromisesWithFlows.{report_with_flows}
use Rattle.hyd_spec_flows.specs.declared.FlowFails.{FlowFails}
use Rattle.hyd_spec_flows.specs.declared.FlowFails.TheVariants.{Name, Vector}
use Rattle.hyd_cert.specs.Lines.{Header, header_text, header_words}
use Rattle.hyd_cert.specs.PlacesOfLines.{Place, First, IsFault, here, later, CanStand, heads_in}
use Rattle.hyd_cert.specs.PlacesWithFlows.{Between, IsStuckInside, with_flows}
use Rattle.hyd_cert.specs.Faults.{lines_on, LacksRecord}
use Rattle.hyd_cert.specs.FaultyLine.{lines_of as record_lines}
use Rattle.hyd_cert.specs.ReaderView.{lead_lines}
use Rattle.hyd_cert.specs.ReaderWithFlows.{as_read, part_lines, IsPartBehind, HasNoFlows}
use Rattle.hyd_cert.specs.ReaderWithFlows.{LacksRecordAsRead}
use Rattle.hyd_cert.specs.declared.answers_of_reader.Stand.{Stand}
use Rattle.hyd_cert.specs.declared.answers_of_reader.Stand.TheVariants as stand
use Rattle.hyd_cert.proofs.TextsAtFault.{has_rest}
use Rattle.hyd_cert.proofs.WholeTextLemmas.{feeds_append}
use Rattle.hyd_cert.proofs.CertificatesLineByLine.{fault_behind}
use Rattle.hyd_sim.specs.RunView.{header_for}
use Rattle.hyd_theorems_on_flow_texts.proofs.FirstLines.{flows_begin, plain_begin}
use Rattle.hyd_theorems_on_flow_texts.proofs.LinesOfEntries.{entry-feeds, end-feeds, rows-feeds}
use Rattle.hyd_spec_check_ends.specs.LinesOfRefusals.{refused_grammar_line, refused_counts_line, printed_number}
use Rattle.hyd_cert_check.specs.Checks.{grammar, counts, record_refused, other_end, CheckEnds}
use Rattle.hyd_cert_check.specs.Checks.{CheckEndsPlainly, CheckFinds, CheckFindsPlainly}
use Rattle.hyd_cert_check.specs.ChecksWithFlows.{CheckEndsNaming, CheckFindsNaming, part_refused}
use Rattle.hyd_cert_check.specs.ChecksWithFlows as naming
use Rattle.hyd_cert_check.specs.ReaderAndPen.{CheckMoment}
use Rattle.hyd_cert_check.specs.RecordByRecord.{coming, entry_as_read, IsEntryAsRead, KeepsFlows, IsReadTo, IsSoFar}
use Rattle.hyd_cert_check.specs.RecordByRecord.{IsSo}
use Rattle.hyd_cert_check.specs.RecordByRecord.{IsEnd, IsOtherEnd, IsRefusedNext, IsPartRefusedNext, IsGrammarFault}
use Rattle.hyd_cert_check.specs.RecordByRecord.{IsCountsFault, IsFaultyLine, IsOtherHeader, read_text, conclusion_line}
use Rattle.hyd_cert_check.specs.RecordByRecord.{end_of}
use Rattle.hyd_spec_check_ends.specs.declared.CheckEnd.{CheckEnd}
use Rattle.hyd_spec_check_ends.specs.declared.CheckEnd.TheVariants as ends
use Rattle.hyd_cert_check.specs.declared.outcome.Conclusion.{Conclusion}
use Rattle.hyd_cert_check.specs.declared.outcome.Conclusion.TheVariants.{Accepted, Refused, RefusedPart, OtherEnd}
use Rattle.hyd_cert_check.specs.declared.outcome.Conclusion.TheVariants.{Grammar}
use Rattle.hyd_cert_check.specs.declared.outcome.Conclusion.TheVariants.{Counts}
use Rattle.hyd_cert_check.proofs.TextLemmas.{plain-fit, plain-text, own-header, header-feeds, flag-is, by-flag}
use Rattle.hyd_cert_check.proofs.TextLemmas.{either-way}
use Rattle.hyd_cert_check.proofs.TextLemmas.{no-entries}
use Rattle.hyd_cert_check.proofs.ReadLemmas.{read-more, last-text, fit-kept, BeginsAsRead, IsBehind, behind-more}
use Rattle.hyd_cert_check.proofs.ReadLemmas.{begins-as-read, StandsAt, at_first, behind, stands-at}
use Rattle.hyd_cert_check.proofs.PlainConclusions as plain
use Rattle.hyd_cert_check.proofs.ConclusionsWithFlows as flows

-- ---- numbers of lines

-- the first line of all
only-first : (line before : ℕ) → line ≡ lines_on before 1 → before ≡ 0 → line ≡ 1
only-first line before e z = omega (arith, e, z)

at-first : (line before offset : ℕ) → line ≡ lines_on before offset → before ≡ 0 → line ≡ printed_number offset
at-first line before offset e z = omega (arith, e, z)

behind-records : (passed line offset lines : ℕ) → passed ≡ lines_on 0 lines → line ≡ lines_on passed offset
    → line ≡ printed_number (lines + offset)
behind-records passed line offset lines p e = omega (arith, p, e)

behind-header : (passed line offset fewer lines : ℕ) → passed ≡ 0 → line ≡ lines_on passed offset → offset ≡ suc fewer
    → lines ≡ 1 → line ≡ printed_number (lines + fewer)
behind-header passed line offset fewer lines p e o l = omega (arith, p, e, o, l)

-- ---- how many lines there are at most

few-heads : (n k : ℕ) → n ≤ 10000 → k ≤ 32 → heads_in n k ≤ 660000
few-heads n k small few =
    let both : 2 + 2 * k ≤ 66 = omega (arith, few) in
    let all : n * (2 + 2 * k) ≤ 10000 * 66 = mul-le-mul small both in
    omega (arith, all)

few-part-lines : (flows : Bool) (n : ℕ) (part : FlowPart) → n ≤ 10000 → IsPartBehind flows n part
    → part_lines flows n part ≤ 330000
few-part-lines false n part small is = omega arith
few-part-lines true n part small is =
    let most = is.at_most in
    let names : length part ≤ 16 = omega (arith, most) in
    let lines : 1 + 2 * n ≤ 20001 = omega (arith, small) in
    let all : length part * (1 + 2 * n) ≤ 16 * 20001 = mul-le-mul names lines in
    omega (arith, all)

few-more : (whole one rest heads part count : ℕ) → whole ≡ one + rest → one ≡ 1 + heads + part → heads ≤ 660000
    → part ≤ 330000 → rest ≤ count * 1000000 → whole ≤ suc count * 1000000
few-more whole one rest heads part count w h a b r = omega (arith, w, h, a, b, r)

few-lines : (flows : Bool) (n k : ℕ) (all : List Entry) → n ≤ 10000 → k ≤ 32 → All (IsEntryAsRead flows n k) all
    → line_feeds (joined (map (entry_as_read flows) all)) ≤ length all * 1000000
few-lines flows n k [] small few fit = omega arith
few-lines flows n k (entry ∷ all) small few fit =
    let is = All-head (IsEntryAsRead flows n k) entry all fit in
    few-more _ _ _ (heads_in n k) (part_lines flows n entry.part) (length all)
    (feeds_append (entry_as_read flows entry) (joined (map (entry_as_read flows) all)))
    (entry-feeds flows n k entry.row entry.part is.row is.part) (few-heads n k small few)
    (few-part-lines flows n entry.part small is.part)
    (few-lines flows n k all small few (All-tail (IsEntryAsRead flows n k) entry all fit))

-- the END line is the last one
last-line-first : (before line whole read : ℕ) → before ≡ 0 → line ≡ lines_on before 2 → whole ≡ read + 1 → read ≡ 1
    → line ≡ whole
last-line-first before line whole read z l w r = omega (arith, z, l, w, r)

last-line-behind : (before line whole read header all count : ℕ) → before ≡ lines_on 0 read → line ≡ lines_on before 1
    → whole ≡ read + 1 → read ≡ header + all → header ≡ 1 → all ≤ count * 1000000 → count < 2 ^ 32 → line ≡ whole
last-line-behind before line whole read header all count b l w r h a c = omega (arith, b, l, w, r, h, a, c)

-- ---- parts of texts without flows

-- a part that names no link isn't refused
none-refused : (grid : Grid) (row : Record) (cause : FlowFails) → IsRefusedPart grid row [] cause → ⊥
none-refused grid row (Name number) refused = let at = refused.is_name in cc
none-refused grid row (Vector number side junction) refused = let at = refused.is_named in cc

by-value : (b : Bool) (P : Type 0) → (b ≡ true → P) → (b ≡ false → P) → P
by-value true P has_flows has_none = has_flows refl
by-value false P has_flows has_none = has_none refl

-- ---- faults in the first line

module _ (project : Project) (sound : IsSound project) (text : List ℕ) (has_flows : is_with_flows text ≡ true) where
  not-plain : (rest : Option (List ℕ)) → Some text ≡ prepend_known (header_text (header_for project)) rest → ⊥
  not-plain rest e =
      let h = has_rest (header_text (header_for project)) rest text (sym e) in
      let has_none : is_with_flows text ≡ false = flag-is false project text h.left sound h.whole in
      let apart : true ≡ false = sym has_flows ∙ has_none in
      cc

  -- where no header line of a version before begins the text, its first line is at fault
  first-line : (place : Place) (t : Option (List ℕ)) (number : ℕ) → IsFault (header_for project) place t number
      → place ≡ First → t ≡ Some text → number ≡ 1
  first-line place t _ (here lacks over) at told = refl
  first-line place _ _ (later {next = next} line {rest = rest} can fault) at told =
      let stands = subst (λ (p : Place). CanStand (header_for project) p line next) at can in
      let h = has_rest (line ++ (10 ∷ [])) rest text told in
      let has_none : is_with_flows text ≡ false = ap is_with_flows (h.whole ∙ append_assoc line (10 ∷ []) h.left)
      ∙ plain_begin (header_for project) line h.left stands.0 in
      let apart : true ≡ false = sym has_flows ∙ has_none in
      absurd (cc)

module _ (project : Project) (sound : IsSound project) (left : Standing) (start at : CheckMoment)
    (so_far : IsSoFar project left start at) (text : List ℕ) (told : coming start ≡ Some text) where
  abbrev own : Header
  own = header_for project

  abbrev n : ℕ
  n = junction_count project

  abbrev k : ℕ
  k = tank_count project

  abbrev all : List Entry
  all = entries_of so_far.namings

  abbrev report-of : List ℕ → List ℕ
  report-of last = report_with_flows project so_far.namings last

  -- what a check ends with, by what is known of texts with flows and without
  abbrev Ends : List ℕ → CheckEnd → Type 0
  Ends last end = CheckEnds project text (report-of last) end

  abbrev Naming : List ℕ → CheckEnd → Type 0
  Naming last end = CheckEndsNaming project text (report-of last) end

  abbrev Plainly : List ℕ → CheckEnd → Type 0
  Plainly last end = CheckEndsPlainly project text (report-of last) end

  abbrev text-as : Bool → List ℕ → List ℕ
  text-as flag tail = header_text (as_read flag own) ++ (joined (map (entry_as_read flag) all) ++ tail)

  fit-at : (now : CheckMoment) → KeepsFlows at now → All (IsEntryAsRead now.reader.flows n k) all
  fit-at now keeps = fit-kept project sound start all at now so_far.read keeps so_far.fit

  fit-as : (flag other : Bool) → flag ≡ other → All (IsEntryAsRead flag n k) all → All (IsEntryAsRead other n k) all
  fit-as flag other e fit = subst (λ (f : Bool). All (IsEntryAsRead f n k) all) e fit

  -- ---- END lines

  module _ (now : CheckMoment) (periods : ℕ) (finished : Bool) (end : IsEnd project periods finished at now) where
    abbrev flag : Bool
    flag = now.reader.flows

    text-is : text ≡ text-as flag (end_line periods finished)
    text-is =
        last-text project sound start all at now at.told.rest (end_line periods finished) text so_far.read end.keeps
        end.text told

    text-is-as : (other : Bool) → flag ≡ other → text ≡ text-as other (end_line periods finished)
    text-is-as other e = subst (λ (f : Bool). text ≡ text-as f (end_line periods finished)) e text-is

    begins : is_with_flows text ≡ flag
    begins = flag-is flag project text (joined (map (entry_as_read flag) all) ++ end_line periods finished) sound
        text-is

    text-feeds : line_feeds text ≡ line_feeds (read_text flag own all) + 1
    text-feeds =
        let head = header_text (as_read flag own) in
        let middle = joined (map (entry_as_read flag) all) in
        let last = end_line periods finished in
        ap line_feeds (text-is ∙ sym (append_assoc head middle last))
        ∙ (feeds_append (head ++ middle) last
        ∙ ap (λ (m : ℕ). line_feeds (head ++ middle) + m) (end-feeds periods finished end.fits))

    -- the reader's count of lines is that of the text
    line-is : left.number < 2 ^ 32 → now.reader.line ≡ line_feeds text
    line-is few = by (stands-at project start at all text so_far.read told)
      where
        by : StandsAt project at all text → now.reader.line ≡ line_feeds text
        by (at_first stands same zero_lines none) =
            let read : line_feeds (read_text flag own all) ≡ 1 =
            ap (λ (es : List Entry). line_feeds (read_text flag own es)) none
            ∙ (ap line_feeds (append-nil (header_text (as_read flag own))) ∙ header-feeds flag project sound) in
            last-line-first at.reader.line now.reader.line (line_feeds text) (line_feeds (read_text flag own all))
            zero_lines (end.line ∙ ap (λ (s : Stand). lines_on at.reader.line (lead_lines s)) stands) text-feeds read
        by (behind b) =
            let same : at.reader.flows ≡ flag = sym (end.keeps.same b.stands) in
            let passed : at.reader.line ≡ lines_on 0 (line_feeds (read_text flag own all)) =
            b.passed ∙ ap (λ (f : Bool). lines_on 0 (line_feeds (read_text f own all))) same in
            let head = header_text (as_read flag own) in
            let middle = joined (map (entry_as_read flag) all) in
            let many : length all ≡ left.number = length-map so_far.namings entry_of ∙ so_far.each in
            let most = sound.counts.junctions in
            let tanks = sound.counts.tanks in
            let lines = few-lines flag n k all (omega (arith, most)) (omega (arith, tanks)) (fit-at now end.keeps) in
            last-line-behind at.reader.line now.reader.line (line_feeds text) (line_feeds (read_text flag own all))
            (line_feeds head) (line_feeds middle) (length all) passed
            (end.line ∙ ap (λ (s : Stand). lines_on at.reader.line (lead_lines s)) b.stands) text-feeds
            (feeds_append head middle) (header-feeds flag project sound) lines (omega (arith, many, few))

  accepted : (now : CheckMoment) (finished : Bool) (end : IsEnd project left.number finished at now)
      → finished ≡ left.finished → Ends (conclusion_line project left.number (Accepted finished)) ends.Accepted
  accepted now finished end same =
      let last = conclusion_line project left.number (Accepted finished) in
      by-flag (is_with_flows text) now.reader.flows (Naming last ends.Accepted) (Plainly last ends.Accepted)
      (begins now left.number finished end)
      (λ has_flows. flows.accepted project sound left so_far.namings so_far.is_run so_far.parts
      (fit-as now.reader.flows true has_flows (fit-at now end.keeps)) text left.number finished so_far.each same
      end.fits
      (text-is-as now left.number finished end true has_flows))
      (λ has_none. (let fit = fit-as now.reader.flows false has_none (fit-at now end.keeps) in
      plain.accepted project sound left so_far.namings so_far.is_run so_far.parts fit text left.number finished
      so_far.each same end.fits
      (plain.text-is project sound left so_far.namings so_far.is_run so_far.parts fit text
      (end_line left.number finished) (text-is-as now left.number finished end false has_none))))

  pub refused-end : (now : CheckMoment) (line : ℕ) → IsOtherEnd project left at now → line ≡ now.reader.line
      → Ends (conclusion_line project left.number (OtherEnd line)) ends.Refused
  refused-end now line other number =
      let last = conclusion_line project left.number (OtherEnd line) in
      let end = other.is_end in
      let lines : line ≡ line_feeds text = number ∙ line-is now other.periods other.finished end other.few in
      by-flag (is_with_flows text) now.reader.flows (Naming last ends.Refused) (Plainly last ends.Refused)
      (begins now other.periods other.finished end)
      (λ has_flows. naming.other_end (flows.refused-end project sound left so_far.namings so_far.is_run so_far.parts
      (fit-as now.reader.flows true has_flows (fit-at now end.keeps)) text left.number line other.periods other.finished
      so_far.each end.fits (text-is-as now other.periods other.finished end true has_flows) other.other lines))
      (λ has_none. (let fit = fit-as now.reader.flows false has_none (fit-at now end.keeps) in
      other_end (plain.refused-end project sound left so_far.namings so_far.is_run so_far.parts fit text left.number
      line other.periods other.finished so_far.each end.fits
      (plain.text-is project sound left so_far.namings so_far.is_run so_far.parts fit text
      (end_line other.periods other.finished) (text-is-as now other.periods other.finished end false has_none))
      other.other
      lines)))

  -- ---- records and parts

  begins-as : (own_flag other : Bool) (entries : List Entry) → own_flag ≡ other
      → BeginsAsRead project own_flag entries text → BeginsAsRead project other entries text
  begins-as own_flag other entries e b = subst (λ (f : Bool). BeginsAsRead project f entries text) e b

  -- one record more was read
  one-read : (entry : Entry) (now : CheckMoment)
      → IsReadTo project start now (all ++ (entry ∷ [])) → BeginsAsRead project now.reader.flows (all ++ (entry ∷ []))
      text
  one-read entry now to =
      begins-as-read project now (all ++ (entry ∷ [])) text (behind-more project start now all entry text to told)

  pub refused-record : (cause : CertRefused) (now : CheckMoment) → IsRefusedNext project left cause at now
      → Ends (conclusion_line project left.number (Refused cause)) ends.Refused
  refused-record cause now next =
      let last = conclusion_line project left.number (Refused cause) in
      let flag = now.reader.flows in
      let read = next.read in
      let b = one-read next.entry now (read-more project sound start all next.entry at now so_far.read read) in
      by-flag (is_with_flows text) flag (Naming last ends.Refused) (Plainly last ends.Refused)
      (flag-is flag project text _ sound b.is_text)
      (λ has_flows. naming.record_refused cause (flows.refused-record project sound left so_far.namings so_far.is_run
      so_far.parts (fit-as flag true has_flows (fit-at now read.keeps)) text cause next.entry next.refused
      (subst (λ (f : Bool). IsEntryAsRead f n k next.entry) has_flows read.fits)
      (begins-as flag true (all ++ (next.entry ∷ [])) has_flows b)))
      (λ has_none. record_refused cause
      (plain.refused-record project sound left so_far.namings so_far.is_run so_far.parts
      (fit-as flag false has_none (fit-at now read.keeps)) text cause next.entry next.refused read.fits.row
      (begins-as flag false (all ++ (next.entry ∷ [])) has_none b)))

  pub refused-part : (period : ℕ) (cause : FlowFails) (now : CheckMoment)
      → IsPartRefusedNext project left period cause at now
      → Ends (conclusion_line project left.number (RefusedPart period cause)) ends.Refused
  refused-part period cause now next =
      let last = conclusion_line project left.number (RefusedPart period cause) in
      let flag = now.reader.flows in
      let read = next.read in
      let entry : Entry = record { row = next.found.row; part = next.part } in
      let b = one-read entry now (read-more project sound start all entry at now so_far.read read) in
      by-flag (is_with_flows text) flag (Naming last ends.Refused) (Plainly last ends.Refused)
      (flag-is flag project text _ sound b.is_text)
      (λ has_flows. part_refused cause (flows.refused-part project sound left so_far.namings so_far.is_run so_far.parts
      (fit-as flag true has_flows (fit-at now read.keeps)) text period cause next.found next.part next.begins
      next.is_found
      next.refused next.number (subst (λ (f : Bool). IsEntryAsRead f n k entry) has_flows read.fits)
      (begins-as flag true (all ++ (entry ∷ [])) has_flows b)))
      (λ has_none. (let fits = subst (λ (f : Bool). IsEntryAsRead f n k entry) has_none read.fits in
      absurd (none-refused next.found.grid next.found.row cause
      (subst (λ (p : FlowPart). IsRefusedPart next.found.grid next.found.row p cause) fits.part next.refused))))

  -- ---- lines, where something was read

  module _ (now : CheckMoment) (line : ℕ) (found : IsGrammarFault project line at now)
      (b : IsBehind project at all text)
    where
      same-flows : now.reader.flows ≡ at.reader.flows
      same-flows = found.keeps.same b.stands

      -- the fault, as one of what is left of the text
      fault-left : IsFaultyLine at.reader.flows own stand.Between (Some b.left) found.offset
      fault-left =
          subst (λ (t : Option (List ℕ)). IsFaultyLine at.reader.flows own stand.Between t found.offset) b.told
          (subst (λ (s : Stand). IsFaultyLine at.reader.flows own s (coming at) found.offset) b.stands
          (subst (λ (f : Bool). IsFaultyLine f own at.reader.stand (coming at) found.offset) same-flows found.fault))

      lacks-left : LacksRecordAsRead at.reader.flows stand.Between own (Some b.left)
      lacks-left =
          subst (λ (t : Option (List ℕ)). LacksRecordAsRead at.reader.flows stand.Between own t) b.told
          (subst (λ (s : Stand). LacksRecordAsRead at.reader.flows s own (coming at)) b.stands
          (subst (λ (f : Bool). LacksRecordAsRead f at.reader.stand own (coming at)) same-flows found.no_record))

      -- what stands before it
      whole-as : (other : Bool) → at.reader.flows ≡ other → text ≡ read_text other own all ++ b.left
      whole-as other e = subst (λ (f : Bool). text ≡ read_text f own all ++ b.left) e b.whole

      passed-as : (other : Bool) → at.reader.flows ≡ other
          → at.reader.line ≡ lines_on 0 (line_feeds (read_text other own all))
      passed-as other e = subst (λ (f : Bool). at.reader.line ≡ lines_on 0 (line_feeds (read_text f own all))) e
          b.passed

      begins-flag : (other : Bool) → at.reader.flows ≡ other → BeginsAsRead project other all text
      begins-flag other e = begins-as at.reader.flows other all e (begins-as-read project at all text b)

      with-flows : at.reader.flows ≡ true → CheckEndsNaming project text (report-of (refused_grammar_line line))
          ends.Refused
      with-flows has_flows =
          let fit = fit-as at.reader.flows true has_flows so_far.fit in
          let stuck = subst (λ (f : Bool). IsFaultyLine f own stand.Between (Some b.left) found.offset) has_flows
          fault-left in
          let is = whole-as true has_flows in
          let lines = line_feeds (header_line flows_version n k ++ joined (map entry_text all)) in
          naming.grammar
          (flows.refused-grammar project sound left so_far.namings so_far.is_run so_far.parts fit text line
          (lines + found.offset)
          (flows.begins-found project sound left so_far.namings so_far.is_run so_far.parts fit text
          (begins-flag true has_flows))
          (flows.fault-in-entry project sound left so_far.namings so_far.is_run so_far.parts fit text b.left
          found.offset
          is stuck)
          (behind-records at.reader.line line found.offset lines (passed-as true has_flows) found.number)
          (flows.none-in-entry project sound left so_far.namings so_far.is_run so_far.parts fit text b.left found.offset
          is stuck))

      without : at.reader.flows ≡ false
          → CheckEndsPlainly project text (report-of (refused_grammar_line line)) ends.Refused
      without has_none =
          let fit = fit-as at.reader.flows false has_none so_far.fit in
          let rows = rows_of (founds_in so_far.namings) in
          let rows_fit = plain-fit n k so_far.namings fit in
          let fault = subst (λ (f : Bool). IsFaultyLine f own stand.Between (Some b.left) found.offset) has_none
          fault-left in
          let lacks = subst (λ (f : Bool). LacksRecordAsRead f stand.Between own (Some b.left)) has_none lacks-left in
          let head = header_text own in
          let before = joined (map record_text rows) in
          let is : text ≡ (head ++ before) ++ b.left =
          whole-as false has_none ∙ ap (λ (t : List ℕ). (head ++ t) ++ b.left) (plain-text so_far.namings) in
          let here = fault_behind own (header_words own) rows (Some text) (Some b.left) found.offset
          (own-header project sound) rows_fit (ap Some is) fault in
          let counted : line_feeds (read_text false own all) ≡ record_lines own rows =
          ap (λ (t : List ℕ). line_feeds (head ++ t)) (plain-text so_far.namings)
          ∙ (feeds_append head before ∙ sum-is (header-feeds false project sound) (rows-feeds n k rows rows_fit)) in
          grammar (plain.refused-grammar project sound left so_far.namings so_far.is_run so_far.parts fit text line
          (record_lines own rows + found.offset)
          (plain.begins-found project sound left so_far.namings so_far.is_run so_far.parts fit text
          (begins-flag false has_none)) here
          (behind-records at.reader.line line found.offset (record_lines own rows)
          (passed-as false has_none ∙ ap (lines_on 0) counted) found.number)
          (λ row unread fits e. lacks row unread fits (ap Some (append_cancel_left (head ++ before) b.left
          (record_text row ++ unread) (sym is ∙ (e ∙ plain.one-more head rows row unread))))))
        where
          sum-is : {a b c d : ℕ} → a ≡ c → b ≡ d → a + b ≡ c + d
          sum-is {a} {b} {c} {d} e f = ap (λ (x : ℕ). x + b) e ∙ ap (λ (y : ℕ). c + y) f

      grammar-behind : Ends (refused_grammar_line line) ends.Refused
      grammar-behind =
          let last = refused_grammar_line line in
          by-flag (is_with_flows text) at.reader.flows (Naming last ends.Refused) (Plainly last ends.Refused)
          (let c = begins-as-read project at all text b in flag-is at.reader.flows project text _ sound c.is_text)
          with-flows without

  -- ---- lines, where nothing was read

  module _ (now : CheckMoment) (line : ℕ) (found : IsGrammarFault project line at now)
      (stands : at.reader.stand ≡ stand.First) (same : coming at ≡ Some text) (zero_lines : at.reader.line ≡ 0)
      (none : all ≡ []) where
    fault-first : (flag : Bool) → now.reader.flows ≡ flag → IsFaultyLine flag own stand.First (Some text) found.offset
    fault-first flag e =
        subst (λ (t : Option (List ℕ)). IsFaultyLine flag own stand.First t found.offset) same
        (subst (λ (s : Stand). IsFaultyLine flag own s (coming at) found.offset) stands
        (subst (λ (f : Bool). IsFaultyLine f own at.reader.stand (coming at) found.offset) e found.fault))

    fit-none : (flag : Bool) → All (IsEntryAsRead flag n k) all
    fit-none flag = subst (λ (es : List Entry). All (IsEntryAsRead flag n k) es) (sym none)
        (λ i d inside. absurd (omega (arith, inside)))

    -- behind the header line of version 3
    behind-flows-header : now.reader.flows ≡ true
        → Ends (refused_grammar_line line) ends.Refused
    behind-flows-header has_flows =
        let last = refused_grammar_line line in
        let f = fault-first true has_flows in
        let head = header_text (with_flows own) in
        let h = has_rest head f.0 text (sym f.1.1.0) in
        let stuck = subst (λ (t : Option (List ℕ)). IsStuckInside own Between t f.1.0) h.told f.1.1.2 in
        let before : head ++ joined (map entry_text all) ≡ head =
        ap (λ (es : List Entry). head ++ joined (map entry_text es)) none ∙ append-nil head in
        let is : text ≡ (head ++ joined (map entry_text all)) ++ h.left =
        h.whole ∙ ap (λ (t : List ℕ). t ++ h.left) (sym before) in
        let lines = line_feeds (head ++ joined (map entry_text all)) in
        let fit = fit-none true in
        by-flag (is_with_flows text) true (Naming last ends.Refused) (Plainly last ends.Refused)
        (flag-is true project text h.left sound h.whole)
        (λ e. naming.grammar (flows.refused-grammar project sound left so_far.namings so_far.is_run so_far.parts fit
        text line (lines + f.1.0)
        (flows.nothing-found project sound left so_far.namings so_far.is_run so_far.parts fit text none)
        (flows.fault-in-entry project sound left so_far.namings so_far.is_run so_far.parts fit text h.left f.1.0 is
        stuck)
        (behind-header at.reader.line line found.offset f.1.0 lines zero_lines found.number f.1.1.1
        (ap line_feeds before ∙ header-feeds true project sound))
        (flows.none-in-entry project sound left so_far.namings so_far.is_run so_far.parts fit text h.left f.1.0 is
        stuck)))
        (λ e. absurd (let apart : true ≡ false = e in cc))

    -- a text that begins as one with flows, by no header line
    no-header : now.reader.flows ≡ false → is_with_flows text ≡ true
        → CheckEndsNaming project text (report-of (refused_grammar_line line)) ends.Refused
    no-header has_none has_flows = by (subst (HasNoFlows own) same (found.no_flows stands has_none))
      where
        first : found.offset ≡ 1
        first = first-line project sound text has_flows First (Some text) found.offset (fault-first false has_none)
            refl refl

        by : HasNoFlows own (Some text)
            → CheckEndsNaming project text (report-of (refused_grammar_line line)) ends.Refused
        by (inl lacks) =
            let fit = fit-none true in
            naming.grammar (flows.refused-grammar project sound left so_far.namings so_far.is_run so_far.parts fit text
            line 1 (flows.nothing-found project sound left so_far.namings so_far.is_run so_far.parts fit text none)
            (flows.fault-in-header project sound left so_far.namings so_far.is_run so_far.parts fit text has_flows
            lacks)
            (at-first line at.reader.line 1
            (found.number ∙ ap (λ (m : ℕ). lines_on at.reader.line m) first) zero_lines)
            (flows.none-in-header project sound left so_far.namings so_far.is_run so_far.parts fit text lacks))
        by (inr begun) = absurd (not-plain project sound text has_flows begun.0 begun.1)

    plain-first : now.reader.flows ≡ false
        → CheckEndsPlainly project text (report-of (refused_grammar_line line)) ends.Refused
    plain-first has_none =
        let fit = fit-none false in
        let lacks : LacksRecord stand.First own (Some text) =
        subst (λ (t : Option (List ℕ)). LacksRecordAsRead false stand.First own t) same
        (subst (λ (s : Stand). LacksRecordAsRead false s own (coming at)) stands
        (subst (λ (f : Bool). LacksRecordAsRead f at.reader.stand own (coming at)) has_none found.no_record)) in
        let rows : rows_of (founds_in so_far.namings) ≡ [] =
        ap (λ (ns : List FoundNaming). rows_of (founds_in ns)) (no-entries so_far.namings none) in
        let head = header_text own in
        grammar (plain.refused-grammar project sound left so_far.namings so_far.is_run so_far.parts fit text line
        found.offset (plain.nothing-found project sound left so_far.namings so_far.is_run so_far.parts fit text none)
        (fault-first false has_none) (at-first line at.reader.line found.offset found.number zero_lines)
        (λ row unread fits e. lacks row unread fits (ap Some (e
        ∙ (ap (λ (rs : List Record). head ++ (joined (map record_text (rs ++ (row ∷ []))) ++ unread)) rows
        ∙ ap (λ (t : List ℕ). head ++ (t ++ unread)) (append-nil (record_text row)))))))

    grammar-first : Ends (refused_grammar_line line) ends.Refused
    grammar-first =
        let last = refused_grammar_line line in
        by-value now.reader.flows (Ends last ends.Refused) behind-flows-header
        (λ has_none. either-way (is_with_flows text) (Naming last ends.Refused) (Plainly last ends.Refused)
        (λ has_flows. no-header has_none has_flows) (λ e. plain-first has_none))

  pub refused-grammar : (now : CheckMoment) (line : ℕ) → IsGrammarFault project line at now
      → Ends (conclusion_line project left.number (Grammar line)) ends.Refused
  refused-grammar now line found = by (stands-at project start at all text so_far.read told)
    where
      by : StandsAt project at all text → Ends (refused_grammar_line line) ends.Refused
      by (at_first stands same zero_lines none) = grammar-first now line found stands same zero_lines none
      by (behind b) = grammar-behind now line found b

  -- ---- header lines

  pub refused-counts : (now : CheckMoment) (line : ℕ) → IsCountsFault project line at now
      → Ends (conclusion_line project left.number (Counts line)) ends.Refused
  refused-counts now line found = by (stands-at project start at all text so_far.read told)
    where
      last : List ℕ
      last = refused_counts_line line

      other : (flag : Bool) → now.reader.flows ≡ flag → coming at ≡ Some text → IsOtherHeader flag own (Some text)
      other flag e same =
          subst (λ (t : Option (List ℕ)). IsOtherHeader flag own t) same
          (subst (λ (f : Bool). IsOtherHeader f own (coming at)) e found.other_header)

      with-flows : coming at ≡ Some text → at.reader.line ≡ 0 → all ≡ [] → now.reader.flows ≡ true
          → CheckEnds project text (report-of (refused_counts_line line)) ends.Refused
      with-flows same zero_lines none has_flows =
          let o = other true has_flows same in
          let h = has_rest (o.line ++ (10 ∷ [])) o.rest text (sym o.begins) in
          let fit = subst (λ (es : List Entry). All (IsEntryAsRead true n k) es) (sym none)
          (λ i d inside. absurd (omega (arith, inside))) in
          by-flag (is_with_flows text) true (Naming (refused_counts_line line) ends.Refused)
          (Plainly (refused_counts_line line) ends.Refused)
          (ap is_with_flows (h.whole ∙ append_assoc o.line (10 ∷ []) h.left)
          ∙ flows_begin o.other o.line h.left o.is_header)
          (λ e. naming.counts (flows.refused-counts project sound left so_far.namings so_far.is_run so_far.parts fit
          text line none o (only-first line at.reader.line found.number zero_lines)))
          (λ e. absurd (let apart : true ≡ false = e in cc))

      without : coming at ≡ Some text → at.reader.line ≡ 0 → all ≡ [] → now.reader.flows ≡ false
          → CheckEnds project text (report-of (refused_counts_line line)) ends.Refused
      without same zero_lines none has_none =
          let o = other false has_none same in
          let h = has_rest (o.line ++ (10 ∷ [])) o.rest text (sym o.begins) in
          let fit = subst (λ (es : List Entry). All (IsEntryAsRead false n k) es) (sym none)
          (λ i d inside. absurd (omega (arith, inside))) in
          by-flag (is_with_flows text) false (Naming (refused_counts_line line) ends.Refused)
          (Plainly (refused_counts_line line) ends.Refused)
          (ap is_with_flows (h.whole ∙ append_assoc o.line (10 ∷ []) h.left)
          ∙ plain_begin o.other o.line h.left o.is_header)
          (λ e. absurd (let apart : false ≡ true = e in cc))
          (λ e. counts (plain.refused-counts project sound left so_far.namings so_far.is_run so_far.parts fit
          text line none o (only-first line at.reader.line found.number zero_lines)))

      by : StandsAt project at all text → CheckEnds project text (report-of (refused_counts_line line)) ends.Refused
      by (at_first stands same zero_lines none) =
          by-value now.reader.flows (CheckEnds project text (report-of (refused_counts_line line)) ends.Refused)
          (with-flows same zero_lines none) (without same zero_lines none)
      by (behind b) = absurd (let apart : stand.Between ≡ stand.First = sym b.stands ∙ found.first in cc)

  -- ---- all of them

  pub holds-whole : (conclusion : Conclusion) (now : CheckMoment) → IsSo conclusion project left at now
      → CheckEnds project text (report-of (conclusion_line project left.number conclusion)) (end_of conclusion)
  holds-whole (Accepted finished) now so = accepted now finished so.0 so.1
  holds-whole (Refused cause) now so = refused-record cause now so
  holds-whole (RefusedPart period cause) now so = refused-part period cause now so
  holds-whole (OtherEnd line) now so = refused-end now line so.0 so.1
  holds-whole (Grammar line) now so = refused-grammar now line so
  holds-whole (Counts line) now so = refused-counts now line so

-- what was found so far
pub finds : (project : Project) → IsSound project → (left : Standing) (start at : CheckMoment)
    (namings : List FoundNaming) → IsRun project (founds_in namings) left → AllByRecursion (IsFoundNaming project)
    namings
    → All (IsEntryAsRead at.reader.flows (junction_count project) (tank_count project)) (entries_of namings)
    → IsReadTo project start at (entries_of namings) → (text : List ℕ) → coming start ≡ Some text
    → CheckFinds project text (report_with_flows project namings [])
finds project sound left start at namings is_run parts fit to text told =
    by (stands-at project start at (entries_of namings) text to told)
  where
    fit-by : (flag other : Bool) → flag ≡ other
        → All (IsEntryAsRead flag (junction_count project) (tank_count project)) (entries_of namings)
        → All (IsEntryAsRead other (junction_count project) (tank_count project)) (entries_of namings)
    fit-by flag other e all =
        subst (λ (f : Bool). All (IsEntryAsRead f (junction_count project) (tank_count project)) (entries_of namings)) e
        all

    none-fit : (flag : Bool) → entries_of namings ≡ []
        → All (IsEntryAsRead flag (junction_count project) (tank_count project)) (entries_of namings)
    none-fit flag none =
        subst (λ (es : List Entry). All (IsEntryAsRead flag (junction_count project) (tank_count project)) es)
        (sym none) (λ i d inside. absurd (omega (arith, inside)))

    by : StandsAt project at (entries_of namings) text → CheckFinds project text (report_with_flows project namings [])
    by (at_first stands same zero_lines none) =
        either-way (is_with_flows text) (CheckFindsNaming project text (report_with_flows project namings []))
        (CheckFindsPlainly project text (report_with_flows project namings []))
        (λ has_flows. flows.found-so-far project sound left namings is_run parts (none-fit true none) text
        (flows.nothing-found project sound left namings is_run parts (none-fit true none) text none))
        (λ has_none. plain.found-so-far project sound left namings is_run parts (none-fit false none) text
        (plain.nothing-found project sound left namings is_run parts (none-fit false none) text none))
    by (behind b) =
        let c = begins-as-read project at (entries_of namings) text b in
        by-flag (is_with_flows text) at.reader.flows
        (CheckFindsNaming project text (report_with_flows project namings []))
        (CheckFindsPlainly project text (report_with_flows project namings []))
        (flag-is at.reader.flows project text _ sound c.is_text)
        (λ has_flows. (let all = fit-by at.reader.flows true has_flows fit in
        flows.found-so-far project sound left namings is_run parts all text
        (flows.begins-found project sound left namings is_run parts all text
        (subst (λ (f : Bool). BeginsAsRead project f (entries_of namings) text) has_flows c))))
        (λ has_none. (let all = fit-by at.reader.flows false has_none fit in
        plain.found-so-far project sound left namings is_run parts all text
        (plain.begins-found project sound left namings is_run parts all text
        (subst (λ (f : Bool). BeginsAsRead project f (entries_of namings) text) has_none c))))
