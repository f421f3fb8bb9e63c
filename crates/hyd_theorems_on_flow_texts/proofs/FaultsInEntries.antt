-- A text with flows that is at fault in an entry goes on to no certificate, and the lines before do.
use Rattle.std.proofs.Common.{◌≡◌, ◌≢◌, ℕ, zero, suc, ◌+◌, ◌*◌, ◌<◌, ◌≤◌, ◌^◌, pos, Bool, true, false, nat_lt, List, []}
use Rattle.std.proofs.Common.{◌∷◌, ◌++◌, map, All, Option, Some, if◌then◌else◌, codes, inl, inr, refl, sym, ap}
use Rattle.std.proofs.Common.{subst, ◌∙◌, append_assoc, append-nil, arith}
use Rattle.std.specs.Fmt.{decimal, signed_decimal}
use Rattle.std.proofs.lemmas.Int.{ints}
use Rattle.std.proofs.lemmas.Bool.Decides.{Decides-ltb}
use Rattle.std.proofs.lemmas.List.Elements.{All-append, All-nil}
use Rattle.hyd_spec.specs.Lists.{joined}
use Rattle.hyd_spec_certificates.specs.RecordAndStanding.{Record}
use Rattle.hyd_spec_certificates.specs.CertificateText.{words, line_feeds, end_line, header_line, IsCertificateText}
use Rattle.hyd_spec_flows.specs.FlowParts.{FlowPart}
use Rattle.hyd_spec_flows.specs.FlowTexts.{Entry, IsEntry, IsTextWithFlows, IsTextOfVersion, without_flows, with_flows}
use Rattle.hyd_spec_flows.specs.FlowTexts.{entry_text, flows_version, text_with_flows, is_with_flows}
use Rattle.hyd_cert.specs.Lines.{Header, header_words}
use Rattle.hyd_cert.specs.PlacesOfLines.{Lacks, front_at, heads_in}
use Rattle.hyd_cert.specs.PlacesWithFlows.{FlowPlace, Between, Head, Flows, Name, HeldHead, Over, CanFollow}
use Rattle.hyd_cert.specs.PlacesWithFlows.{flows_after, behind_link, held_after, held_front, IsStuckInside, here, later}
use Rattle.hyd_cert.specs.PlacesWithFlows.{IsFlowsHeaderLine, with_flows as as_with_flows}
use Rattle.hyd_cert.specs.ReaderWithFlows.{LacksFlowsHeader}
use Rattle.hyd_cert.specs.FaultyLine.{IsLines, HasFirstLine, ended, unended}
use Rattle.hyd_line_reader.proofs.SplitTexts.{split-same}
use Rattle.hyd_cert.proofs.TextsAtFault.{has_rest, no_feeds, is_lines_more}
use Rattle.hyd_cert.proofs.WholeTextLemmas.{feeds_append}
use Rattle.hyd_lemmas.proofs.ListsOptionsAndResults.{joined_append}
use Rattle.hyd_theorems_on_flow_texts.specs.FaultyLineWithFlows.{IsCertificateWithFlows}
use Rattle.hyd_theorems_on_flow_texts.specs.FaultyLineWithFlows.{IsFirstFaultWithFlows}
use Rattle.hyd_theorems_on_flow_texts.proofs.FirstLines.{flows_begin, plain_begin, header_then, flows_header}
use Rattle.hyd_theorems_on_flow_texts.proofs.FirstLines.{flows_header_of, plain_header_of, flows_header_free}
use Rattle.hyd_theorems_on_flow_texts.proofs.FirstLines.{plain_header_free, same_counts, flows_header_fits, plain_text}
use Rattle.hyd_theorems_on_flow_texts.proofs.FirstLines.{flows_header_is}
use Rattle.hyd_theorems_on_flow_texts.proofs.LinesThatPass.{Passes, there, passes, Goes, IsAt, IsAtEnd, opened}
use Rattle.hyd_theorems_on_flow_texts.proofs.LinesThatPass.{follows_alone, next_same, none_over, goes_behind, goes_from}
use Rattle.hyd_theorems_on_flow_texts.proofs.LinesThatPass.{entry_opened, entries_on, end_goes}
use Rattle.hyd_theorems_on_flow_texts.proofs.ReadingsOfLines.{entries_of_text}

-- ---- from each place a text can go on to the end

record CanEnd (header : Header) (place : FlowPlace) : Type 0 where
  text : List ℕ
  goes_on : Goes header place text

between_ends : (header : Header) → CanEnd header Between
between_ends header = record { text = end_line 0 false; goes_on = end_goes header 0 false (omega arith) }

held_ends : (header : Header) (left i : ℕ) → CanEnd header (held_after header.junctions left (i + 1))
    → CanEnd header (HeldHead left i)
held_ends header left i next = record {
  text = _;
  goes_on = passes (held_front header.junctions i ++ signed_decimal (pos 0)) (
    record {
      head = pos 0;
      in_box = record { above_floor = omega (arith, ints); below_ceiling = omega (arith, ints) };
      is = refl;
    },
    refl,
  )
      next.goes_on;
}

held_by : (header : Header) (left i : ℕ) (b : Bool) → nat_lt i (2 * header.junctions) ≡ b
    → (i < 2 * header.junctions → CanEnd header (HeldHead left i)) → CanEnd header (behind_link left)
    → CanEnd header (if b then HeldHead left i else behind_link left)
held_by header left i true e inside behind = inside ((Decides-ltb i (2 * header.junctions)).0 e)
held_by header left i false e inside behind = behind

-- so many heads of a link are left
held_end_by : (header : Header) (left more i : ℕ) → 2 * header.junctions ≤ i + more → CanEnd header (behind_link left)
    → CanEnd header (held_after header.junctions left i)
held_end_by header left zero i low behind = held_by header left i (nat_lt i (2 * header.junctions)) refl
    (λ less. absurd (omega (arith, low, less))) behind
held_end_by header left (suc more) i low behind =
    held_by header left i (nat_lt i (2 * header.junctions)) refl
    (λ less. held_ends header left i (held_end_by header left more (i + 1) (omega (arith, low)) behind)) behind

name_ends : (header : Header) (left : ℕ) → CanEnd header (behind_link left) → CanEnd header (Name left)
name_ends header left behind =
    let heads = held_end_by header left (2 * header.junctions) 0 (omega arith) behind in
    record {
      text = _;
      goes_on = passes (words (codes "LINK" ∷ (decimal 0 ∷ []))) (0, (record { fits = omega arith; is = refl }, refl))
          heads.goes_on;
    }

links_end : (header : Header) (left : ℕ) → CanEnd header (behind_link left)
links_end header zero = between_ends header
links_end header (suc left) = name_ends header left (links_end header left)

flows_ends : (header : Header) → CanEnd header Flows
flows_ends header =
    let name = name_ends header 0 (links_end header 0) in
    record {
      text = _;
      goes_on = passes (words (codes "FLOWS" ∷ (decimal 1 ∷ [])))
          (0, (record { some = omega arith; at_most = omega arith; is = refl }, refl)) name.goes_on;
    }

head_ends : (header : Header) (i : ℕ) → CanEnd header (flows_after (heads_in header.junctions header.tanks) (i + 1))
    → CanEnd header (Head i)
head_ends header i next = record {
  text = _;
  goes_on = passes (front_at header.junctions i ++ signed_decimal (pos 0)) (
    record {
      head = pos 0;
      in_box = record { above_floor = omega (arith, ints); below_ceiling = omega (arith, ints) };
      is = refl;
    },
    refl,
  )
      next.goes_on;
}

head_by : (header : Header) (i : ℕ) (b : Bool) → nat_lt i (heads_in header.junctions header.tanks) ≡ b
    → (i < heads_in header.junctions header.tanks → CanEnd header (Head i))
    → CanEnd header (if b then Head i else Flows)
head_by header i true e inside = inside ((Decides-ltb i (heads_in header.junctions header.tanks)).0 e)
head_by header i false e inside = flows_ends header

heads_end_by : (header : Header) (more i : ℕ) → heads_in header.junctions header.tanks ≤ i + more
    → CanEnd header (flows_after (heads_in header.junctions header.tanks) i)
heads_end_by header zero i low = head_by header i (nat_lt i (heads_in header.junctions header.tanks)) refl
    (λ less. absurd (omega (arith, low, less)))
heads_end_by header (suc more) i low =
    head_by header i (nat_lt i (heads_in header.junctions header.tanks)) refl
    (λ less. head_ends header i (heads_end_by header more (i + 1) (omega (arith, low))))

can_end : (header : Header) (place : FlowPlace) → CanEnd header place
can_end header Between = between_ends header
can_end header (Head i) =
    head_ends header i (heads_end_by header (heads_in header.junctions header.tanks) (i + 1) (omega arith))
can_end header Flows = flows_ends header
can_end header (Name left) = name_ends header left (links_end header left)
can_end header (HeldHead left i) =
    held_ends header left i (held_end_by header left (2 * header.junctions) (i + 1) (omega arith)
    (links_end header left))
can_end header Over = record { text = []; goes_on = there (refl, refl) }

-- ---- the first line that is at fault, from a place on

record FaultFrom (header : Header) (place : FlowPlace) (text : List ℕ) (number : ℕ) : Type 0 where
  front : List ℕ
  rest : List ℕ
  parts : text ≡ front ++ rest
  lines : IsLines front
  count : line_feeds front + 1 ≡ number
  more : List ℕ
  goes_on : Goes header place (front ++ more)
  stops : (after : List ℕ) → HasFirstLine rest after → Goes header place (front ++ after) → ⊥

stops_here : (header : Header) (place : FlowPlace) (text : List ℕ)
    → ((next : FlowPlace) → Lacks (λ line. CanFollow header place line next) (Some text))
    → (place ≡ Over → Some text ≢ Some [])
    → (after : List ℕ) → HasFirstLine text after → Goes header place after → ⊥
stops_here header place text lacks over _ (ended line rest after free e) goes_on =
    let k = opened header IsAtEnd place (line ++ (10 ∷ after)) goes_on (λ at. not_nothing line after at.1) in
    let same = split-same 10 k.line line k.rest after (follows_alone header place k.next k.line k.can) free
    (sym k.is) in
    lacks k.next k.line rest k.can (ap Some (e ∙ ap (λ l. l ++ (10 ∷ rest)) (sym same.0)))
  where
    not_nothing : (l r : List ℕ) → l ++ (10 ∷ r) ≢ []
    not_nothing [] r e = cc
    not_nothing (c ∷ l) r e = cc
stops_here header place text lacks over _ (unended free) goes_on =
    let k = opened header IsAtEnd place text goes_on (λ at. over at.0 (ap Some at.1)) in
    lacks k.next k.line k.rest k.can (ap Some k.is)

abbrev later_fault : (header : Header) (place next : FlowPlace) (line text left : List ℕ) (number : ℕ)
    → CanFollow header place line next → text ≡ (line ++ (10 ∷ [])) ++ left → FaultFrom header next left number
    → FaultFrom header place text (suc number)
later_fault header place next line text left number can whole k = record {
  front = line ++ (10 ∷ k.front);
  rest = k.rest;
  parts = whole ∙ (append_assoc line (10 ∷ []) left ∙ (ap (λ r. line ++ (10 ∷ r)) k.parts
      ∙ sym (append_assoc line (10 ∷ k.front) k.rest)));
  lines = is_lines_more line k.front k.lines;
  count = (let feeds = no_feeds line k.front (follows_alone header place next line can) in let so_far = k.count in
      omega (arith, feeds, so_far));
  more = k.more;
  goes_on = subst (Goes header place) (sym (append_assoc line (10 ∷ k.front) k.more)) (passes line can k.goes_on);
  stops = λ after first goes_on. k.stops after first (goes_behind header IsAtEnd place next line (k.front ++ after) can
      (λ over. none_over header place next line over.0 can)
      (subst (Goes header place) (append_assoc line (10 ∷ k.front) after) goes_on));
}

fault_from : (header : Header) (place : FlowPlace) (t : Option (List ℕ)) (number : ℕ) (text : List ℕ)
    → IsStuckInside header place t number → t ≡ Some text → FaultFrom header place text number
fault_from header place _ _ text (here lacks over) told =
    let k = can_end header place in record {
      front = [];
      rest = text;
      parts = refl;
      lines = inl refl;
      count = refl;
      more = k.text;
      goes_on = k.goes_on;
      stops = stops_here header place text (λ next line rest can e. lacks next line rest can (told ∙ e))
          (λ at e. over at (told ∙ e));
    }
fault_from header place _ _ text (later {next = next} line {rest = rest} {number = number} can apart fault) told =
    let h = has_rest (line ++ (10 ∷ [])) rest text told in
    later_fault header place next line text h.left number can h.whole
    (fault_from header next rest number h.left fault h.told)

-- ---- no whole entry stands where a text is at fault in one

abbrev IsBetween : FlowPlace → List ℕ → Type 0
IsBetween place text = place ≡ Between

none_through : (header : Header) (place : FlowPlace) (t : Option (List ℕ)) (number : ℕ) (text : List ℕ)
    → IsStuckInside header place t number → t ≡ Some text → place ≢ Between
    → Passes header IsBetween place text → ⊥
none_through header place _ _ text (here lacks over) told apart goes_on =
    let k = opened header IsBetween place text goes_on apart in
    lacks k.next k.line k.rest k.can (told ∙ ap Some k.is)
none_through header place _ _ text (later {next = next} line {rest = rest} {number = number} can within fault) told
    apart
    goes_on =
    let h = has_rest (line ++ (10 ∷ [])) rest text told in
    let whole : text ≡ line ++ (10 ∷ h.left) = h.whole ∙ append_assoc line (10 ∷ []) h.left in
    none_through header next rest number h.left fault h.told within
    (goes_behind header IsBetween place next line h.left can apart
    (subst (Passes header IsBetween place) whole goes_on))

no_entry_by : (header : Header) (place : FlowPlace) (t : Option (List ℕ)) (number : ℕ) (entry : Entry)
    (unread : List ℕ) → IsStuckInside header place t number → place ≡ Between → t ≡ Some (entry_text entry ++ unread)
    → IsEntry header.junctions header.tanks entry → ⊥
no_entry_by header place _ _ entry unread (here lacks over) at told is =
    let k = entry_opened header IsBetween entry unread is (there refl) in
    lacks k.next k.line k.rest (subst (λ (p : FlowPlace). CanFollow header p k.line k.next) (sym at) k.can)
    (told ∙ ap Some k.is)
no_entry_by header place _ _ entry unread (later {next = next} line {rest = rest} {number = number} can within fault) at
    told is =
    let k = entry_opened header IsBetween entry unread is (there refl) in
    let stands = subst (λ (p : FlowPlace). CanFollow header p line next) at can in
    let h = has_rest (line ++ (10 ∷ [])) rest (entry_text entry ++ unread) told in
    let whole : k.line ++ (10 ∷ k.rest) ≡ line ++ (10 ∷ h.left) = sym k.is ∙ (h.whole
    ∙ append_assoc line (10 ∷ []) h.left) in
    let same = split-same 10 k.line line k.rest h.left (follows_alone header Between k.next k.line k.can)
    (follows_alone header Between next line stands) whole in
    let after = next_same header Between k.next next k.line line same.0 k.can stands in
    none_through header next rest number h.left fault h.told within
    (subst (λ (p : FlowPlace). Passes header IsBetween p h.left) after
    (subst (λ (r : List ℕ). Passes header IsBetween k.next r) same.1 k.goes_on))

pub no_entry : (header : Header) (number : ℕ) (entry : Entry) (unread : List ℕ)
    → IsStuckInside header Between (Some (entry_text entry ++ unread)) number
    → IsEntry header.junctions header.tanks entry → ⊥
no_entry header number entry unread fault is =
    no_entry_by header Between (Some (entry_text entry ++ unread)) number entry unread fault refl refl is

-- ---- versions

-- which line can follow depends on the counts alone
can_as : (header : Header) (place next : FlowPlace) (l : List ℕ) → CanFollow header place l next
    → CanFollow (as_with_flows header) place l next
can_as header Between next l can = can
can_as header (Head i) next l can = can
can_as header Flows next l can = can
can_as header (Name left) next l can = can
can_as header (HeldHead left i) next l can = can
can_as header Over next l can = can

can_back : (header : Header) (place next : FlowPlace) (l : List ℕ) → CanFollow (as_with_flows header) place l next
    → CanFollow header place l next
can_back header Between next l can = can
can_back header (Head i) next l can = can
can_back header Flows next l can = can
can_back header (Name left) next l can = can
can_back header (HeldHead left i) next l can = can
can_back header Over next l can = can

pub stuck_as : (header : Header) (place : FlowPlace) (t : Option (List ℕ)) (number : ℕ)
    → IsStuckInside header place t number → IsStuckInside (as_with_flows header) place t number
stuck_as header place _ _ (here lacks over) =
    here (λ next l rest can e. lacks next l rest (can_back header place next l can) e) over
stuck_as header place _ _ (later {next = next} line {rest = rest} {number = number} can apart fault) =
    later line (can_as header place next line can) apart (stuck_as header next rest number fault)

-- ---- whole texts

-- the header line of a certificate with flows, and what goes on behind it
record Opens (text : List ℕ) : Type 0 where
  other : Header
  line : List ℕ
  rest : List ℕ
  is_header : IsFlowsHeaderLine other line
  goes_on : Goes other Between rest
  is : text ≡ line ++ (10 ∷ rest)

opens : (text : List ℕ) (m j : ℕ) (entries : List Entry) (periods : ℕ) (finished : Bool)
    → IsTextWithFlows text m j entries periods finished → Opens text
opens text m j entries periods finished is =
    let rest = joined (map entry_text entries) ++ end_line periods finished in
    record {
      other = flows_header m j;
      line = header_words (flows_header m j);
      rest = rest;
      is_header = flows_header_of text m j entries periods finished is;
      goes_on = entries_on (flows_header m j) IsAtEnd entries (end_line periods finished) is.entries_fit
          (end_goes (flows_header m j) periods finished is.periods_fit);
      is = is.is_text ∙ header_then (flows_header m j) rest;
    }

-- ---- whole lines

-- lines behind whole lines
lines_behind : (a b : List ℕ) → IsLines a → IsLines b → IsLines (a ++ b)
lines_behind a b one (inl e) = subst IsLines (sym (ap (λ x. a ++ x) e ∙ append-nil a)) one
lines_behind a b one (inr body) =
    inr (a ++ body.0, ap (λ x. a ++ x) body.1 ∙ sym (append_assoc a body.0 (10 ∷ [])))

-- what is passed is whole lines
lines_passed : (header : Header) (to place : FlowPlace) (text : List ℕ) → Passes header (IsAt to []) place text
    → IsLines text
lines_passed header to _ _ (there e) = inl e.1
lines_passed header to _ _ (passes line can more) = is_lines_more line _ (lines_passed header to _ _ more)

-- ---- no header line of version 3

plain_opens : (text : List ℕ) (version m j : ℕ) (rows : List Record) (periods : ℕ) (finished : Bool)
    → IsCertificateText text version m j rows periods finished
    → (rest : List ℕ) × (text ≡ header_words (record { version = version; junctions = m; tanks = j }) ++ (10 ∷ rest))
plain_opens text version m j rows periods finished is =
    (_, is.is_text ∙ header_then (record { version = version; junctions = m; tanks = j }) _)

-- nothing that begins with its first line is a certificate
no_first_line : (text : List ℕ) → is_with_flows text ≡ true → LacksFlowsHeader (Some text) → (after : List ℕ)
    → HasFirstLine text after → (version m j : ℕ) (rows : List Record) (parts : List FlowPart) (periods : ℕ)
    (finished : Bool) → IsTextOfVersion after m j version rows parts periods finished → ⊥
no_first_line text begun lacks _ (ended line rest after free e) _ m j _ _ periods finished (with_flows entries is) =
    let o = opens (line ++ (10 ∷ after)) m j entries periods finished is in
    let same = split-same 10 o.line line o.rest after (flows_header_free o.other o.line o.is_header) free (sym o.is) in
    lacks o.other o.line rest o.is_header (ap Some (e ∙ ap (λ l. l ++ (10 ∷ rest)) (sym same.0)))
no_first_line text begun lacks _ (unended free) _ m j _ _ periods finished (with_flows entries is) =
    let o = opens text m j entries periods finished is in
    lacks o.other o.line o.rest o.is_header (ap Some o.is)
no_first_line text begun lacks _ (ended line rest after free e) version m j rows _ periods finished (without_flows is) =
    let header : Header = record { version = version; junctions = m; tanks = j } in
    let known = plain_header_of (line ++ (10 ∷ after)) version m j rows periods finished is in
    let o = plain_opens (line ++ (10 ∷ after)) version m j rows periods finished is in
    let same = split-same 10 (header_words header) line o.0 after (plain_header_free header (header_words header) known)
    free (sym o.1) in
    let no : is_with_flows text ≡ false =
    ap is_with_flows (e ∙ ap (λ l. l ++ (10 ∷ rest)) (sym same.0)) ∙ plain_begin header (header_words header) rest
    known in
    let apart : true ≡ false = sym begun ∙ no in
    absurd (cc)
no_first_line text begun lacks _ (unended free) version m j rows _ periods finished (without_flows is) =
    let apart : true ≡ false = sym begun ∙ plain_text text version m j rows periods finished is in
    absurd (cc)

module _ (n k : ℕ) (small_n : n < 2 ^ 32) (small_k : k < 2 ^ 32) where
  abbrev own : Header
  own = flows_header n k

  abbrev own_line : List ℕ
  own_line = header_words own

  own_is : IsFlowsHeaderLine own own_line
  own_is = flows_header_is n k small_n small_k

  -- a header line, entries and an END line
  pub whole_text : (text : List ℕ) (entries : List Entry) (periods : ℕ) (finished : Bool) → All (IsEntry n k) entries
      → periods < 2 ^ 32 → text ≡ text_with_flows n k entries periods finished
      → IsTextWithFlows text n k entries periods finished
  whole_text text entries periods finished all fits is = record {
    junctions_fit = (let own = own_is in own.junctions_fit);
    tanks_fit = (let own = own_is in own.tanks_fit);
    header_fits = flows_header_fits n k small_n small_k;
    entries_fit = all;
    periods_fit = fits;
    is_text = is;
  }

  -- a text that goes on behind the header line and entries is a certificate
  goes_whole : (front : List ℕ) (entries : List Entry) (more : List ℕ) → All (IsEntry n k) entries
      → front ≡ header_line flows_version n k ++ joined (map entry_text entries) → Goes own Between more
      → IsCertificateWithFlows n k (front ++ more)
  goes_whole front entries more all e goes_on =
      let rest = entries_of_text own more goes_on in
      let first = joined (map entry_text entries) in
      let second = joined (map entry_text rest.entries) in
      let end = end_line rest.periods rest.finished in
      let head = header_line flows_version n k in
      record {
        entries = entries ++ rest.entries;
        periods = rest.periods;
        finished = rest.finished;
        is_text = whole_text (front ++ more) (entries ++ rest.entries) rest.periods rest.finished
            (All-append (IsEntry n k) entries rest.entries all rest.fit) rest.periods_fit
            (ap (λ f. f ++ more) e ∙ (append_assoc head first more
            ∙ ap (λ t. head ++ t) (ap (λ m. first ++ m) rest.is ∙ (sym (append_assoc first second end)
            ∙ ap (λ t. t ++ end) (sym (joined_append entry_text entries rest.entries))))));
      }

  -- a text that begins with the own header line and is one with flows goes on behind it
  behind_own : (text rest : List ℕ) → text ≡ own_line ++ (10 ∷ rest) → Opens text → Goes own Between rest
  behind_own text rest e o =
      let same = split-same 10 o.line own_line o.rest rest (flows_header_free o.other o.line o.is_header)
      (flows_header_free own own_line own_is) (sym o.is ∙ e) in
      let counts = same_counts o.other own o.line own_line o.is_header own_is same.0 in
      let header : o.other ≡ own =
      ap (λ v. record o.other { version = v }) o.is_header.known
      ∙ (ap (λ m. record { version = flows_version; junctions = m; tanks = o.other.tanks }) counts.0
      ∙ ap (λ j. record own { tanks = j }) counts.1) in
      subst (λ (h : Header). Goes h Between rest) header
      (subst (λ (r : List ℕ). Goes o.other Between r) same.1 o.goes_on)

  -- of a certificate of any version that begins with the own header line
  some_behind : (text rest : List ℕ) → text ≡ own_line ++ (10 ∷ rest) → (version m j : ℕ) (rows : List Record)
      (parts : List FlowPart) (periods : ℕ) (finished : Bool)
      → IsTextOfVersion text m j version rows parts periods finished → Goes own Between rest
  some_behind text rest e version m j rows _ periods finished (without_flows is) =
      let begun : is_with_flows text ≡ true = ap is_with_flows e ∙ flows_begin own own_line rest own_is in
      let no = plain_text text version m j rows periods finished is in
      absurd (let apart : true ≡ false = sym begun ∙ no in cc)
  some_behind text rest e _ m j _ _ periods finished (with_flows entries is) =
      behind_own text rest e (opens text m j entries periods finished is)

  -- ---- a fault behind the header line and entries

  pub fault_behind : (text : List ℕ) (entries : List Entry) (left : List ℕ) (offset : ℕ) → All (IsEntry n k) entries
      → text ≡ (header_line flows_version n k ++ joined (map entry_text entries)) ++ left
      → IsStuckInside own Between (Some left) offset
      → IsFirstFaultWithFlows n k text (line_feeds (header_line flows_version n k ++ joined (map entry_text entries))
      + offset)
  fault_behind text entries left offset all e fault =
      let f = fault_from own Between (Some left) offset left fault refl in
      let head = header_line flows_version n k in
      let first = joined (map entry_text entries) in
      let before = head ++ first in
      record {
        front = before ++ f.front;
        rest = f.rest;
        parts = e ∙ (ap (λ t. before ++ t) f.parts ∙ sym (append_assoc before f.front f.rest));
        lines = lines_behind before f.front (lines_behind head first (inr (own_line, refl))
            (subst IsLines (append-nil first) (lines_passed own Between Between (first ++ [])
            (entries_on own (IsAt Between []) entries [] all (there (refl, refl)))))) f.lines;
        count = (let feeds = feeds_append before f.front in let so_far = f.count in omega (arith, feeds, so_far));
        more = f.more;
        goes_on = subst (IsCertificateWithFlows n k) (sym (append_assoc before f.front f.more))
            (goes_whole before entries (f.front ++ f.more) all refl f.goes_on);
        stops = λ after begins some. f.stops after begins (goes_from own Between (f.front ++ after) Between
            (first ++ (f.front ++ after))
            (entries_on own (IsAt Between (f.front ++ after)) entries (f.front ++ after) all (there (refl, refl)))
            (some_behind ((before ++ f.front) ++ after) (first ++ (f.front ++ after))
            (append_assoc before f.front after ∙ (append_assoc head first (f.front ++ after)
            ∙ header_then own (first ++ (f.front ++ after)))) some.version some.junctions some.tanks some.rows
            some.parts some.periods some.finished some.is_text));
      }

  -- ---- no header line of version 3

  -- a text that begins as one with flows, and that no header line begins, is at fault in its first line
  pub fault_first : (text : List ℕ) → is_with_flows text ≡ true → LacksFlowsHeader (Some text)
      → IsFirstFaultWithFlows n k text 1
  fault_first text begun lacks = record {
    front = [];
    rest = text;
    parts = refl;
    lines = inl refl;
    count = refl;
    more = text_with_flows n k [] 0 false;
    goes_on = record {
      entries = [];
      periods = 0;
      finished = false;
      is_text = whole_text (text_with_flows n k [] 0 false) [] 0 false (All-nil (IsEntry n k)) (omega arith) refl;
    };
    stops = λ after begins some. no_first_line text begun lacks after begins some.version some.junctions some.tanks
        some.rows some.parts some.periods some.finished some.is_text;
  }
