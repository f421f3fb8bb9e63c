-- Reports and certificates with a record more, and with what is last; those of texts without flows.
use Rattle.std.proofs.Common.{◌≡◌, ℕ, ◌<◌, ◌^◌, Bool, true, false, List, [], ◌∷◌, ◌++◌, map, All, Option, Some}
use Rattle.std.proofs.Common.{None, refl, sym, ap, ap₂, subst, ◌∙◌, arith, append-nil, append_assoc, MatchBool}
use Rattle.std.specs.List.{AllByRecursion, AllZip}
use Rattle.std.proofs.lemmas.List.{map-append}
use Rattle.std.proofs.lemmas.List.Elements.{All-head, All-tail, All-cons, All-nil}
use Rattle.hyd_io.specs.DeskBytes.{where_told}
use Rattle.hyd_net.specs.Sound.{IsSound}
use Rattle.hyd_spec.specs.ProgramTypes.{Project}
use Rattle.hyd_spec.specs.Lists.{joined}
use Rattle.hyd_spec.specs.NodeNumbers.{junction_count, tank_count}
use Rattle.hyd_spec_certificates.specs.PeriodNetwork.{Grid}
use Rattle.hyd_spec_certificates.specs.RecordAndStanding.{Record, Standing}
use Rattle.hyd_spec_certificates.specs.CertificateText.{IsRow, record_text, line_feeds}
use Rattle.hyd_spec_certificates.specs.PrintedIntervals.{is_report_time}
use Rattle.hyd_spec_reports.specs.ReportLine.{line_text, report_text}
use Rattle.hyd_spec_reports.specs.PromisesOfRunsAndChecks.{lines_of, rows_of}
use Rattle.hyd_spec_flows.specs.FlowParts.{FlowPart}
use Rattle.hyd_spec_flows.specs.FlowTexts.{Entry, IsEntry, rows_in, is_with_flows}
use Rattle.hyd_spec_reports_with_flows.specs.FlowLines.{FlowLine, IsFlowLine, AreFlowLines, flow_line_text}
use Rattle.hyd_spec_reports_with_flows.specs.PromisesWithFlows.{FoundNaming, IsFoundNaming, founds_in, entry_of}
use Rattle.hyd_spec_reports_with_flows.specs.PromisesWithFlows.{entries_of}
use Rattle.hyd_spec_reports_with_flows.specs.PromisesWithFlows.{period_text, report_with_flows, report_so_far_naming}
use Rattle.hyd_cert.specs.Lines.{Header, IsHeaderLine, header_words, header_text}
use Rattle.hyd_cert.specs.PlacesWithFlows.{IsFlowsHeaderLine, with_flows}
use Rattle.hyd_cert.specs.ReaderWithFlows.{as_read}
use Rattle.hyd_cert.proofs.HeadLemmas.{header_is}
use Rattle.hyd_cert.proofs.LineLemmas.{header_is_line}
use Rattle.hyd_lemmas.proofs.ListsOptionsAndResults.{same_item, join-more, joined_append}
use Rattle.hyd_run.specs.Runs.{first_line}
use Rattle.hyd_run.proofs.RunLemmas.{known}
use Rattle.hyd_sim.specs.RunView.{header_for}
use Rattle.hyd_theorems_on_flow_texts.proofs.FirstLines.{flows_begin, plain_begin, flows_header_is, flows_header_free}
use Rattle.hyd_theorems_on_flow_texts.proofs.LinesOfEntries.{one-feed}
use Rattle.hyd_cert_check.specs.RecordByRecord.{entry_as_read, IsEntryAsRead, read_text}

-- ---- lists of texts

pub founds-more : (namings : List FoundNaming) (naming : FoundNaming)
    → founds_in (namings ++ (naming ∷ [])) ≡ founds_in namings ++ (naming.found ∷ [])
founds-more namings naming = map-append (λ (n : FoundNaming). n.found) namings (naming ∷ [])

pub entries-more : (namings : List FoundNaming) (naming : FoundNaming)
    → entries_of (namings ++ (naming ∷ [])) ≡ entries_of namings ++ (entry_of naming ∷ [])
entries-more namings naming = map-append entry_of namings (naming ∷ [])

pub no-entries : (namings : List FoundNaming) → entries_of namings ≡ [] → namings ≡ []
no-entries [] e = refl
no-entries (n ∷ namings) e = absurd (cc)

-- what was found has these records
pub rows-found : (namings : List FoundNaming) → rows_in (entries_of namings) ≡ rows_of (founds_in namings)
rows-found [] = refl
rows-found (n ∷ namings) = ap (λ (rows : List Record). n.found.row ∷ rows) (rows-found namings)

-- ---- reports

-- a report of some periods, and what is put in behind it
pub report-last : (project : Project) (left : Standing) (namings : List FoundNaming) (last : List ℕ)
    → report_so_far_naming project left namings None ++ last ≡ report_with_flows project namings last
report-last project left namings last =
    let lines = joined (map (period_text project) namings) in
    ap (λ xs. (first_line ++ xs) ++ last) (append-nil lines) ∙ append_assoc first_line lines last

-- a period more
pub report-more : (project : Project) (left next : Standing) (namings : List FoundNaming) (naming : FoundNaming)
    → report_so_far_naming project left namings None ++ period_text project naming
    ≡ report_so_far_naming project next (namings ++ (naming ∷ [])) None
report-more project left next namings naming =
    let lines = joined (map (period_text project) namings) in
    let more = joined (map (period_text project) (namings ++ (naming ∷ []))) in
    ap (λ xs. (first_line ++ xs) ++ period_text project naming) (append-nil lines)
    ∙ (append_assoc first_line lines (period_text project naming)
    ∙ ap (λ xs. first_line ++ xs) (sym (append-nil more ∙ join-more (period_text project) namings naming)))

-- ---- texts without flows

-- no line is printed of a part that names no link
none-at : (project : Project) (grid : Grid) (time : ℕ) (due : Bool) (lines : List FlowLine)
    → MatchBool due (AllZip (IsFlowLine project grid time) [] lines) (lines ≡ []) → lines ≡ []
none-at project grid time false lines are = are
none-at project grid time true [] are = refl
none-at project grid time true (line ∷ lines) are = absurd are

none-printed : (project : Project) (naming : FoundNaming) → IsFoundNaming project naming → naming.part ≡ []
    → naming.flows ≡ []
none-printed project naming is none =
    none-at project naming.found.grid naming.found.standing.time
    (is_report_time project naming.found.standing.time) naming.flows
    (subst (λ (part : FlowPart). AreFlowLines project naming.found.grid naming.found.standing part naming.flows) none
    is.lines)

lines-alone : (project : Project) (naming : FoundNaming) → naming.flows ≡ []
    → period_text project naming ≡ joined (map (line_text project) naming.found.lines)
lines-alone project naming none =
    let lines = joined (map (line_text project) naming.found.lines) in
    ap (λ (flows : List FlowLine). lines ++ joined (map (flow_line_text project) flows)) none ∙ append-nil lines

plain-lines : (project : Project) (n k : ℕ) (namings : List FoundNaming)
    → AllByRecursion (IsFoundNaming project) namings → All (IsEntryAsRead false n k) (entries_of namings)
    → joined (map (period_text project) namings)
    ≡ joined (map (line_text project) (lines_of (founds_in namings)))
plain-lines project n k [] parts fit = refl
plain-lines project n k (naming ∷ namings) parts fit =
    let IsGood = IsEntryAsRead false n k in
    let here = All-head IsGood (entry_of naming) (entries_of namings) fit in
    ap₂ (λ a b. a ++ b) (lines-alone project naming (none-printed project naming parts.0 here.part))
    (plain-lines project n k namings parts.1 (All-tail IsGood (entry_of naming) (entries_of namings) fit))
    ∙ sym (joined_append (line_text project) naming.found.lines (lines_of (founds_in namings)))

-- the report of a text without flows
pub plain-report : (project : Project) (n k : ℕ) (namings : List FoundNaming) (last : List ℕ)
    → AllByRecursion (IsFoundNaming project) namings → All (IsEntryAsRead false n k) (entries_of namings)
    → report_with_flows project namings last ≡ report_text project (lines_of (founds_in namings)) last
plain-report project n k namings last parts fit =
    ap (λ (lines : List ℕ). first_line ++ (lines ++ last)) (plain-lines project n k namings parts fit)

-- its records
plain-entries : (entries : List Entry) → joined (map (entry_as_read false) entries)
    ≡ joined (map record_text (rows_in entries))
plain-entries [] = refl
plain-entries (entry ∷ entries) = ap₂ (λ a b. a ++ b) (append-nil (record_text entry.row)) (plain-entries entries)

pub plain-text : (namings : List FoundNaming)
    → joined (map (entry_as_read false) (entries_of namings)) ≡ joined (map record_text (rows_of (founds_in namings)))
plain-text namings =
    plain-entries (entries_of namings) ∙ ap (λ (rows : List Record). joined (map record_text rows)) (rows-found namings)

pub plain-fit : (n k : ℕ) (namings : List FoundNaming) → All (IsEntryAsRead false n k) (entries_of namings)
    → All (IsRow n k) (rows_of (founds_in namings))
plain-fit n k [] fit = All-nil (IsRow n k)
plain-fit n k (naming ∷ namings) fit =
    let IsGood = IsEntryAsRead false n k in
    let here = All-head IsGood (entry_of naming) (entries_of namings) fit in
    All-cons (IsRow n k) naming.found.row (rows_of (founds_in namings)) here.row
    (plain-fit n k namings (All-tail IsGood (entry_of naming) (entries_of namings) fit))

-- ---- texts with flows

pub flows-fit : (n k : ℕ) (entries : List Entry) → All (IsEntryAsRead true n k) entries → All (IsEntry n k) entries
flows-fit n k [] fit = All-nil (IsEntry n k)
flows-fit n k (entry ∷ entries) fit =
    let IsGood = IsEntryAsRead true n k in
    let here = All-head IsGood entry entries fit in
    All-cons (IsEntry n k) entry entries (record { row = here.row; part = here.part })
    (flows-fit n k entries (All-tail IsGood entry entries fit))

-- ---- headers

-- the counts of a network are small
pub few-junctions : (project : Project) → IsSound project → junction_count project < 2 ^ 32
few-junctions project sound = let le = sound.counts.junctions in omega (arith, le)

pub few-tanks : (project : Project) → IsSound project → tank_count project < 2 ^ 32
few-tanks project sound = let le = sound.counts.tanks in omega (arith, le)

-- the header line of a network is one that a text can have
pub own-header : (project : Project) → IsSound project → IsHeaderLine (header_for project) (header_words (header_for
    project))
own-header project sound =
    let v = known project in
    header_is (header_for project) v.0 v.1 (few-junctions project sound) (few-tanks project sound)

-- so is that of version 3 with its counts
pub own-flows-header : (project : Project) → IsSound project
    → IsFlowsHeaderLine (with_flows (header_for project)) (header_words (with_flows (header_for project)))
own-flows-header project sound =
    flows_header_is (junction_count project) (tank_count project) (few-junctions project sound)
    (few-tanks project sound)

-- it is a line
pub header-feeds : (flows : Bool) (project : Project) → IsSound project
    → line_feeds (header_text (as_read flows (header_for project))) ≡ 1
header-feeds true project sound =
    let header = with_flows (header_for project) in
    one-feed (header_words header) (flows_header_free header (header_words header) (own-flows-header project sound))
header-feeds false project sound =
    let header = header_for project in
    one-feed (header_words header) (header_is_line header (header_words header) (own-header project sound)).0

-- a text says by its header line whether it has flows
pub flag-is : (flows : Bool) (project : Project) (text rest : List ℕ) → IsSound project
    → text ≡ header_text (as_read flows (header_for project)) ++ rest → is_with_flows text ≡ flows
flag-is true project text rest sound e =
    let header = with_flows (header_for project) in
    ap is_with_flows (e ∙ append_assoc (header_words header) (10 ∷ []) rest)
    ∙ flows_begin header (header_words header) rest (own-flows-header project sound)
flag-is false project text rest sound e =
    let header = header_for project in
    ap is_with_flows (e ∙ append_assoc (header_words header) (10 ∷ []) rest)
    ∙ plain_begin header (header_words header) rest (own-header project sound)

-- ---- what was read

pub read-text-more : (flows : Bool) (header : Header) (entries : List Entry) (entry : Entry)
    → read_text flows header (entries ++ (entry ∷ [])) ≡ read_text flows header entries ++ entry_as_read flows entry
read-text-more flows header entries entry =
    let head = header_text (as_read flows header) in
    let text = joined (map (entry_as_read flows) entries) in
    ap (λ (t : List ℕ). head ++ t) (join-more (entry_as_read flows) entries entry)
    ∙ sym (append_assoc head text (entry_as_read flows entry))

-- ---- texts that are told

-- a text that is told is the one that it is told to be
pub told-is : (rest : Option (List ℕ)) (x text : List ℕ) → where_told rest x ≡ Some text → text ≡ x
told-is None x text e = absurd (cc)
told-is (Some known) x text e = sym (same_item _ x text e)

-- by whether it begins as one with flows
pub by-flag : (begins flows : Bool) (P Q : Type 0) → begins ≡ flows → (flows ≡ true → P) → (flows ≡ false → Q)
    → MatchBool begins P Q
by-flag begins true P Q e with_flows without = subst (λ (b : Bool). MatchBool b P Q) (sym e) (with_flows refl)
by-flag begins false P Q e with_flows without = subst (λ (b : Bool). MatchBool b P Q) (sym e) (without refl)

pub either-way : (begins : Bool) (P Q : Type 0) → (begins ≡ true → P) → (begins ≡ false → Q) → MatchBool begins P Q
either-way true P Q with_flows without = with_flows refl
either-way false P Q with_flows without = without refl
