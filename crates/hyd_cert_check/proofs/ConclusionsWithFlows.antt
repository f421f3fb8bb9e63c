-- What is found where the records of a text with flows end, as of the whole text.
use Rattle.std.proofs.Common.{◌≡◌, ℕ, ◌+◌, ◌^◌, ◌<◌, Bool, true, List, [], ◌∷◌, ◌++◌, length, map, All, Some}
use Rattle.std.proofs.Common.{inl, inr, refl, sym, ap, subst, ◌∙◌, append_assoc}
use Rattle.std.specs.List.{AllByRecursion}
use Rattle.std.proofs.lemmas.List.{append_cancel_left}
use Rattle.std.proofs.lemmas.List.Elements.{All-push, All-head, All-tail}
use Rattle.hyd_net.specs.Sound.{IsSound}
use Rattle.hyd_spec.specs.ProgramTypes.{Project}
use Rattle.hyd_spec.specs.Lists.{joined}
use Rattle.hyd_spec.specs.NodeNumbers.{junction_count, tank_count}
use Rattle.hyd_spec_certificates.specs.RecordAndStanding.{Standing}
use Rattle.hyd_spec_certificates.specs.CertificateText.{line_feeds, header_line}
use Rattle.hyd_spec_reports.specs.ReportLine.{refused_line, refused_end_line}
use Rattle.hyd_spec_certificates.specs.RefusedRecords.{IsRefused}
use Rattle.hyd_spec_certificates.specs.declared.CertRefused.{CertRefused}
use Rattle.hyd_spec_reports.specs.PromisesOfRunsAndChecks.{Found, IsFound, IsRun, accepted_line}
use Rattle.hyd_spec_flows.specs.FlowParts.{FlowPart, IsRefusedPart}
use Rattle.hyd_spec_flows.specs.FlowTexts.{Entry, IsEntry, IsTextWithFlows, entry_text, flows_version, text_with_flows}
use Rattle.hyd_spec_flows.specs.FlowTexts.{is_with_flows}
use Rattle.hyd_spec_reports_with_flows.specs.FlowLines.{refused_flow_line}
use Rattle.hyd_spec_reports_with_flows.specs.PromisesWithFlows.{FoundNaming, IsFoundNaming, founds_in, entries_of}
use Rattle.hyd_spec_reports_with_flows.specs.PromisesWithFlows.{report_with_flows}
use Rattle.hyd_spec_reports_with_flows.specs.PromisesWithFlows.{BeginsWithEntries, CheckAcceptsNaming}
use Rattle.hyd_spec_reports_with_flows.specs.PromisesWithFlows.{CheckRefusesNaming}
use Rattle.hyd_spec_reports_with_flows.specs.PromisesWithFlows.{CheckRefusesPart, CheckRefusesEndNaming}
use Rattle.hyd_spec_flows.specs.declared.FlowFails.{FlowFails}
use Rattle.hyd_cert.specs.Lines.{header_words}
use Rattle.hyd_cert.specs.PlacesWithFlows.{Between, IsStuckInside, with_flows}
use Rattle.hyd_cert.specs.ReaderWithFlows.{HasOtherCounts, LacksFlowsHeader}
use Rattle.hyd_lemmas.proofs.ListsOptionsAndResults.{join-more}
use Rattle.hyd_sim.specs.RunView.{header_for}
use Rattle.hyd_theorems_on_flows.proofs.FlowsOfHistories.{every_flow}
use Rattle.hyd_theorems_on_flow_texts.specs.FaultyLineWithFlows.{IsFirstFaultWithFlows}
use Rattle.hyd_theorems_on_flow_texts.proofs.FirstLines.{header_then}
use Rattle.hyd_theorems_on_flow_texts.proofs.FaultsInEntries.{whole_text, fault_behind, fault_first, no_entry, stuck_as}
use Rattle.hyd_spec_check_ends.specs.LinesOfRefusals.{refused_grammar_line, refused_counts_line, printed_number}
use Rattle.hyd_cert_check.specs.ChecksWithFlows.{BeginsWithNamings, HasNoMoreEntries, CheckRefusesGrammarNaming}
use Rattle.hyd_cert_check.specs.ChecksWithFlows.{CheckRefusesCountsNaming, CheckFindsNaming}
use Rattle.hyd_cert_check.specs.RecordByRecord.{IsEntryAsRead}
use Rattle.hyd_cert_check.proofs.TextLemmas.{flows-fit, few-junctions, few-tanks, own-flows-header, no-entries}
use Rattle.hyd_cert_check.proofs.ReadLemmas.{BeginsAsRead}

-- the last of some entries
last-fits : (n k : ℕ) (before : List Entry) (entry : Entry) → All (IsEntry n k) (before ++ (entry ∷ []))
    → IsEntry n k entry
last-fits n k [] entry fit = All-head (IsEntry n k) entry [] fit
last-fits n k (first ∷ before) entry fit =
    last-fits n k before entry (All-tail (IsEntry n k) first (before ++ (entry ∷ [])) fit)

-- entries and one more, and what is behind it
one-more : (head : List ℕ) (entries : List Entry) (entry : Entry) (unread : List ℕ)
    → head ++ (joined (map entry_text (entries ++ (entry ∷ []))) ++ unread)
    ≡ (head ++ joined (map entry_text entries)) ++ (entry_text entry ++ unread)
one-more head entries entry unread =
    ap (λ (t : List ℕ). head ++ (t ++ unread)) (join-more entry_text entries entry)
    ∙ (ap (λ (t : List ℕ). head ++ t) (append_assoc (joined (map entry_text entries)) (entry_text entry) unread)
    ∙ sym (append_assoc head (joined (map entry_text entries)) (entry_text entry ++ unread)))

module _ (project : Project) (sound : IsSound project) (left : Standing) (namings : List FoundNaming)
    (is_run : IsRun project (founds_in namings) left) (parts : AllByRecursion (IsFoundNaming project) namings)
    (fit : All (IsEntryAsRead true (junction_count project) (tank_count project)) (entries_of namings))
    (text : List ℕ) where
  abbrev n : ℕ
  n = junction_count project

  abbrev k : ℕ
  k = tank_count project

  abbrev report-of : List ℕ → List ℕ
  report-of last = report_with_flows project namings last

  abbrev head : List ℕ
  head = header_line flows_version n k

  -- ---- END lines

  certificate-is : (periods : ℕ) (finished : Bool) → periods < 2 ^ 32
      → text ≡ text_with_flows n k (entries_of namings) periods finished
      → IsTextWithFlows text n k (entries_of namings) periods finished
  certificate-is periods finished fits is =
      whole_text n k (few-junctions project sound) (few-tanks project sound) text (entries_of namings) periods finished
      (flows-fit n k (entries_of namings) fit) fits is

  pub accepted : (count : ℕ) (finished : Bool) → length namings ≡ count → finished ≡ left.finished → count < 2 ^ 32
      → text ≡ text_with_flows n k (entries_of namings) count finished
      → CheckAcceptsNaming project text (report-of (accepted_line count finished))
  accepted count finished each same fits is = record {
    namings = namings;
    left = left;
    is_run = is_run;
    parts = parts;
    certificate = subst (λ (m : ℕ). IsTextWithFlows text n k (entries_of namings) m left.finished) (sym each)
        (subst (λ (b : Bool). IsTextWithFlows text n k (entries_of namings) count b) same
        (certificate-is count finished fits is));
    report = ap (λ (m : ℕ). report-of (accepted_line m finished)) (sym each)
        ∙ ap (λ (b : Bool). report-of (accepted_line (length namings) b)) same;
    every_history = every_flow project sound namings left is_run parts;
  }

  pub refused-end : (count line periods : ℕ) (finished : Bool) → length namings ≡ count → periods < 2 ^ 32
      → text ≡ text_with_flows n k (entries_of namings) periods finished
      → (((periods ≡ count) × (finished ≡ left.finished)) → ⊥) → line ≡ line_feeds text
      → CheckRefusesEndNaming project text (report-of (refused_end_line line))
  refused-end count line periods finished each fits is other number = record {
    namings = namings;
    left = left;
    is_run = is_run;
    parts = parts;
    periods = periods;
    finished = finished;
    certificate = certificate-is periods finished fits is;
    other_end = λ same. other (same.0 ∙ each, same.1);
    report = ap (λ (m : ℕ). report-of (refused_end_line m)) number;
    every_history = every_flow project sound namings left is_run parts;
  }

  -- ---- what the text begins with

  pub begins-with : (entry : Entry) → IsEntryAsRead true n k entry
      → BeginsAsRead project true (entries_of namings ++ (entry ∷ [])) text
      → BeginsWithEntries project text (entries_of namings ++ (entry ∷ []))
  begins-with entry here begins = record {
    entries_fit = All-push (IsEntry n k) (entries_of namings) entry (flows-fit n k (entries_of namings) fit)
        (record { row = here.row; part = here.part });
    unread = begins.unread;
    is_text = begins.is_text;
  }

  pub nothing-found : entries_of namings ≡ [] → BeginsWithNamings project namings text
  nothing-found none = inl (no-entries namings none)

  pub begins-found : BeginsAsRead project true (entries_of namings) text → BeginsWithNamings project namings text
  begins-found begins = inr (record {
    entries_fit = flows-fit n k (entries_of namings) fit;
    unread = begins.unread;
    is_text = begins.is_text;
  })

  -- ---- records and parts

  pub refused-record : (cause : CertRefused) (entry : Entry) → IsRefused project left entry.row cause
      → IsEntryAsRead true n k entry → BeginsAsRead project true (entries_of namings ++ (entry ∷ [])) text
      → CheckRefusesNaming project text (report-of (refused_line project cause)) cause
  refused-record cause entry refused here begins = record {
    namings = namings;
    left = left;
    is_run = is_run;
    parts = parts;
    entry = entry;
    refused = refused;
    is_text = begins-with entry here begins;
    report = refl;
    every_history = every_flow project sound namings left is_run parts;
  }

  pub refused-part : (period : ℕ) (cause : FlowFails) (found : Found) (part : FlowPart) → found.standing ≡ left
      → IsFound project found → IsRefusedPart found.grid found.row part cause → period ≡ found.row.number
      → IsEntryAsRead true n k (record { row = found.row; part = part })
      → BeginsAsRead project true (entries_of namings ++ (record { row = found.row; part = part } ∷ [])) text
      → CheckRefusesPart project text (report-of (refused_flow_line project period cause)) cause
  refused-part period cause found part stands is refused number here begins = record {
    namings = namings;
    found = found;
    part = part;
    is_run = subst (λ (s : Standing). IsRun project (founds_in namings) s) (sym stands) is_run;
    parts = parts;
    is_found = is;
    refused = refused;
    is_text = begins-with (record { row = found.row; part = part }) here begins;
    report = ap (λ (m : ℕ). report-of (refused_flow_line project m cause)) number;
    every_history = every_flow project sound namings left is_run parts;
  }

  -- ---- lines

  pub refused-grammar : (line number : ℕ) → BeginsWithNamings project namings text
      → IsFirstFaultWithFlows n k text number → line ≡ printed_number number → HasNoMoreEntries project namings text
      → CheckRefusesGrammarNaming project text (report-of (refused_grammar_line line))
  refused-grammar line number begins fault printed all_entries = record {
    namings = namings;
    left = left;
    is_run = is_run;
    parts = parts;
    begins = begins;
    all_entries = all_entries;
    number = number;
    is_fault = fault;
    report = ap (λ (m : ℕ). report-of (refused_grammar_line m)) printed;
    every_history = every_flow project sound namings left is_run parts;
  }

  -- a fault in the entry behind those that were read
  pub fault-in-entry : (rest : List ℕ) (offset : ℕ)
      → text ≡ (head ++ joined (map entry_text (entries_of namings))) ++ rest
      → IsStuckInside (header_for project) Between (Some rest) offset
      → IsFirstFaultWithFlows n k text (line_feeds (head ++ joined (map entry_text (entries_of namings))) + offset)
  fault-in-entry rest offset is fault =
      fault_behind n k (few-junctions project sound) (few-tanks project sound) text (entries_of namings) rest offset
      (flows-fit n k (entries_of namings) fit) is
      (stuck_as (header_for project) Between (Some rest) offset fault)

  -- no whole entry stands there
  pub none-in-entry : (rest : List ℕ) (offset : ℕ)
      → text ≡ (head ++ joined (map entry_text (entries_of namings))) ++ rest
      → IsStuckInside (header_for project) Between (Some rest) offset → HasNoMoreEntries project namings text
  none-in-entry rest offset is fault entry begins =
      let front = head ++ joined (map entry_text (entries_of namings)) in
      let parts_are : text ≡ front ++ (entry_text entry ++ begins.unread) =
      begins.is_text ∙ one-more head (entries_of namings) entry begins.unread in
      let same : rest ≡ entry_text entry ++ begins.unread =
      append_cancel_left front rest (entry_text entry ++ begins.unread) (sym is ∙ parts_are) in
      no_entry (header_for project) offset entry begins.unread
      (subst (λ (r : List ℕ). IsStuckInside (header_for project) Between (Some r) offset) same fault)
      (last-fits n k (entries_of namings) entry begins.entries_fit)

  -- no header line of version 3 stands first
  pub fault-in-header : is_with_flows text ≡ true → LacksFlowsHeader (Some text) → IsFirstFaultWithFlows n k text 1
  fault-in-header has_flows lacks = fault_first n k (few-junctions project sound) (few-tanks project sound) text
      has_flows lacks

  pub none-in-header : LacksFlowsHeader (Some text) → HasNoMoreEntries project namings text
  none-in-header lacks entry begins =
      let own = with_flows (header_for project) in
      let rest = joined (map entry_text (entries_of namings ++ (entry ∷ []))) ++ begins.unread in
      lacks own (header_words own) rest (own-flows-header project sound)
      (ap Some (begins.is_text ∙ header_then own rest))

  pub refused-counts : (line : ℕ) → entries_of namings ≡ [] → HasOtherCounts (header_for project) (Some text)
      → line ≡ 1 → CheckRefusesCountsNaming project text (report-of (refused_counts_line line))
  refused-counts line none other first = record {
    other_counts = other;
    report = ap (λ (ns : List FoundNaming). report_with_flows project ns (refused_counts_line line))
        (no-entries namings none)
        ∙ ap (λ (m : ℕ). report_with_flows project [] (refused_counts_line m)) first;
  }

  pub found-so-far : BeginsWithNamings project namings text → CheckFindsNaming project text (report-of [])
  found-so-far begins = record {
    namings = namings;
    left = left;
    is_run = is_run;
    parts = parts;
    begins = begins;
    report_so_far = refl;
    every_history = every_flow project sound namings left is_run parts;
  }
