-- Texts with flows that go from line to line.
use Rattle.std.proofs.Common.{◌≡◌, ℕ, suc, ◌+◌, ◌*◌, ◌/◌, ◌^◌, ◌<◌, ◌≤◌, ℤ, Bool, true, false, nat_lt}
use Rattle.std.proofs.Common.{List, [], ◌∷◌, ◌++◌, length, map, All, if◌then◌else◌, codes, get_or, inl, inr, refl, sym}
use Rattle.std.proofs.Common.{ap, ap₂, subst, ◌∙◌, append_assoc, arith, rules}
use Rattle.std.specs.Fmt.{decimal, signed_decimal}
use Rattle.std.proofs.lemmas.List.{append_cancel_left}
use Rattle.std.proofs.lemmas.Bool.Decides.{Decides-ltb}
use Rattle.std.proofs.lemmas.List.Elements.{All-head, All-tail}
use Rattle.hyd_spec.specs.Lists.{joined}
use Rattle.hyd_spec_certificates.specs.Certificate.{IsInBox}
use Rattle.hyd_spec_certificates.specs.CertificateText.{words, record_text, end_line}
use Rattle.hyd_spec_flows.specs.FlowParts.{NamedLink, FlowPart as Part}
use Rattle.hyd_spec_flows.specs.FlowTexts.{Entry, IsEntry, IsPart, IsNamed, entry_text, part_text, named_text}
use Rattle.hyd_spec_flows.specs.FlowTexts.{name_line}
use Rattle.hyd_spec_flows.specs.FlowTexts.{flows_line}
use Rattle.hyd_line_reader.specs.TextsWithoutLine.{HasNo}
use Rattle.hyd_cert.specs.Faults.{IsFront}
use Rattle.hyd_cert.specs.Lines.{Header, end_word}
use Rattle.hyd_cert.specs.PlacesOfLines.{front_at, heads_in, head_text}
use Rattle.hyd_cert.specs.PlacesWithFlows.{FlowPlace, Between, Head, Flows, Name, HeldHead, Over, CanFollow}
use Rattle.hyd_cert.specs.PlacesWithFlows.{flows_after, behind_link, held_after, held_front, held_lines}
use Rattle.hyd_line_reader.proofs.SplitTexts.{split-same}
use Rattle.hyd_cert.proofs.LineLemmas.{next_is_line, head_is_line}
use Rattle.hyd_cert.proofs.HeadLemmas.{is_front, end_is}
use Rattle.hyd_cert.proofs.CertificatesLineByLine.{by_heads, flat}
use Rattle.hyd_cert.proofs.RecordFaultLemmas.{period_of, is_period, record_parts}
use Rattle.hyd_cert.proofs.FlowLineLemmas.{flows_is_line, name_is_line, held_is}
use Rattle.hyd_cert.proofs.FlowFaultLemmas.{not_less, flows_head, first_key, second_key}
use Rattle.hyd_theorems_on_definitions.proofs.CertificateLines.{decimal-same}

-- ---- places

pub flows_end : (heads i : ℕ) → heads ≤ i → flows_after heads i ≡ Flows
flows_end heads i low = ap (λ b. if b then Head i else Flows) (not_less i heads low)

pub held_head : (n left i : ℕ) → i < 2 * n → held_after n left i ≡ HeldHead left i
held_head n left i low = ap (λ b. if b then HeldHead left i else behind_link left) ((Decides-ltb i (2 * n)).1 low)

pub held_end : (n left i : ℕ) → 2 * n ≤ i → held_after n left i ≡ behind_link left
held_end n left i low = ap (λ b. if b then HeldHead left i else behind_link left) (not_less i (2 * n) low)

-- ---- lines

held_is_front : (n i : ℕ) → IsFront (held_front n i)
held_is_front n i = go (nat_lt i n)
  where
    go : (b : Bool) → IsFront (if b then codes "FU " else codes "FL ")
    go true = search (rules, arith)
    go false = search (rules, arith)

-- a line that can follow has no line feed
pub follows_alone : (header : Header) (place next : FlowPlace) (l : List ℕ) → CanFollow header place l next
    → HasNo 10 l
follows_alone header Between next l (inl can) = (next_is_line l (inl can.0)).0
follows_alone header Between next l (inr can) = (next_is_line l (inr can.0)).0
follows_alone header (Head i) next l can =
    (head_is_line (front_at header.junctions i) l (is_front (i / header.junctions)) can.0).0
follows_alone header Flows next l can = (flows_is_line l (suc can.0, can.1.0)).0
follows_alone header (Name left) next l can = (name_is_line l (can.0, can.1.0)).0
follows_alone header (HeldHead left i) next l can =
    (head_is_line (held_front header.junctions i) l (held_is_front header.junctions i) can.0).0
follows_alone header Over next l can = absurd can

-- the place behind a line is one
pub next_same : (header : Header) (place next other : FlowPlace) (l m : List ℕ) → l ≡ m
    → CanFollow header place l next → CanFollow header place m other → next ≡ other
next_same header Between next other l m e (inl is) (inl was) = is.1 ∙ sym was.1
next_same header Between next other l m e (inr is) (inr was) = is.1 ∙ sym was.1
next_same header Between next other l m e (inl is) (inr was) = let first : 80 ≡ 69 = ap (λ (t : List ℕ). get_or t 0 0)
    (sym is.0.is ∙ (e ∙ was.0.is)) in absurd (omega (arith, first))
next_same header Between next other l m e (inr is) (inl was) = let first : 69 ≡ 80 = ap (λ (t : List ℕ). get_or t 0 0)
    (sym is.0.is ∙ (e ∙ was.0.is)) in absurd (omega (arith, first))
next_same header (Head i) next other l m e is was = is.1 ∙ sym was.1
next_same header Flows next other l m e is was =
    let a = is.1.0 in
    let b = was.1.0 in
    let few = a.at_most in
    let most = b.at_most in
    let words_same = append_cancel_left (codes "FLOWS ") (decimal (suc is.0)) (decimal (suc was.0))
    (sym a.is ∙ (e ∙ b.is)) in
    let count : suc is.0 ≡ suc was.0 =
    decimal-same (suc is.0) (suc was.0) (omega (arith, few)) (omega (arith, most)) words_same in
    let left : is.0 ≡ was.0 = omega (arith, count) in
    is.1.1 ∙ (ap Name left ∙ sym was.1.1)
next_same header (Name left) next other l m e is was = is.1.1 ∙ sym was.1.1
next_same header (HeldHead left i) next other l m e is was = is.1 ∙ sym was.1
next_same header Over next other l m e is was = absurd is

pub none_over : (header : Header) (place next : FlowPlace) (l : List ℕ) → place ≡ Over → CanFollow header place l next
    → ⊥
none_over header place next l e can = subst (λ (p : FlowPlace). CanFollow header p l next) e can

-- ---- from line to line

-- from a place on the text has lines that can follow, up to a place and a text of which E holds
pub data Passes (header : Header) (E : FlowPlace → List ℕ → Type 0) : FlowPlace → List ℕ → Type 0 where
  there : {place : FlowPlace} {text : List ℕ} → E place text → Passes header E place text
  passes : {place next : FlowPlace} (line : List ℕ) {rest : List ℕ} → CanFollow header place line next
      → Passes header E next rest → Passes header E place (line ++ (10 ∷ rest))

-- the END line was read, and nothing is left
abbrev pub IsAtEnd : FlowPlace → List ℕ → Type 0
IsAtEnd place text = (place ≡ Over) × (text ≡ [])

-- it goes to its end
abbrev pub Goes : Header → FlowPlace → List ℕ → Type 0
Goes header place text = Passes header IsAtEnd place text

-- this place and this text come
abbrev pub IsAt : FlowPlace → List ℕ → FlowPlace → List ℕ → Type 0
IsAt to left place text = (place ≡ to) × (text ≡ left)

-- a text that goes on from a place, seen from its line
pub record GoesOn (header : Header) (E : FlowPlace → List ℕ → Type 0) (place : FlowPlace) (text : List ℕ) : Type 0 where
  pub line : List ℕ
  pub rest : List ℕ
  pub next : FlowPlace
  pub can : CanFollow header place line next
  pub goes_on : Passes header E next rest
  pub is : text ≡ line ++ (10 ∷ rest)

pub opened : (header : Header) (E : FlowPlace → List ℕ → Type 0) (place : FlowPlace) (text : List ℕ)
    → Passes header E place text → (E place text → ⊥) → GoesOn header E place text
opened header E _ _ (there e) none = absurd (none e)
opened header E _ _ (passes line can more) none = record {
  line = line;
  rest = _;
  next = _;
  can = can;
  goes_on = more;
  is = refl;
}

-- what a text goes on with behind a line that can follow
pub goes_behind : (header : Header) (E : FlowPlace → List ℕ → Type 0) (place next : FlowPlace) (line rest : List ℕ)
    → CanFollow header place line next → (E place (line ++ (10 ∷ rest)) → ⊥)
    → Passes header E place (line ++ (10 ∷ rest)) → Passes header E next rest
goes_behind header E place next line rest can none goes_on =
    let k = opened header E place (line ++ (10 ∷ rest)) goes_on none in
    let same = split-same 10 k.line line k.rest rest (follows_alone header place k.next k.line k.can)
    (follows_alone header place next line can) (sym k.is) in
    let after = next_same header place k.next next k.line line same.0 k.can can in
    subst (λ (p : FlowPlace). Passes header E p rest) after
    (subst (λ (r : List ℕ). Passes header E k.next r) same.1 k.goes_on)

-- a text that goes to its end goes on from each place to which its lines lead
pub goes_from : (header : Header) (to : FlowPlace) (left : List ℕ) (place : FlowPlace) (text : List ℕ)
    → Passes header (IsAt to left) place text → Goes header place text → Goes header to left
goes_from header to left _ _ (there e) goes_on =
    subst (λ (p : FlowPlace). Goes header p left) e.0 (subst (Goes header _) e.1 goes_on)
goes_from header to left _ _ (passes {place = place} {next = next} line {rest = rest} can more) goes_on =
    goes_from header to left next rest more
    (goes_behind header IsAtEnd place next line rest can (λ over. none_over header place next line over.0 can) goes_on)

-- ---- the lines of an entry

module _ (header : Header) (E : FlowPlace → List ℕ → Type 0) where
  -- the heads of a record
  heads_on : (i : ℕ) (us : List ℤ) (rest : List ℕ) → i + length us ≡ heads_in header.junctions header.tanks
      → All IsInBox us → Passes header E Flows rest
      → Passes header E (flows_after (heads_in header.junctions header.tanks) i)
      (head_text header.junctions i us ++ rest)
  heads_on i [] rest all box goes_on =
      subst (λ (p : FlowPlace). Passes header E p rest)
      (sym (flows_end (heads_in header.junctions header.tanks) i (omega (arith, all)))) goes_on
  heads_on i (u ∷ us) rest all box goes_on =
      let heads = heads_in header.junctions header.tanks in
      let front = front_at header.junctions i in
      let more = head_text header.junctions (i + 1) us in
      let after = heads_on (i + 1) us rest (omega (arith, all)) (All-tail IsInBox u us box) goes_on in
      let text : (front ++ signed_decimal u) ++ (10 ∷ (more ++ rest)) ≡ head_text header.junctions i (u ∷ us) ++ rest =
      append_assoc front (signed_decimal u) (10 ∷ (more ++ rest))
      ∙ sym (append_assoc front (signed_decimal u ++ (10 ∷ more)) rest
      ∙ ap (λ t. front ++ t) (append_assoc (signed_decimal u) (10 ∷ more) rest)) in
      let can : CanFollow header (Head i) (front ++ signed_decimal u) (flows_after heads (i + 1)) =
      (record { head = u; in_box = All-head IsInBox u us box; is = refl }, refl) in
      subst (Passes header E (flows_after heads i)) text
      (subst (λ (p : FlowPlace). Passes header E p ((front ++ signed_decimal u) ++ (10 ∷ (more ++ rest))))
      (sym (flows_head heads i (omega (arith, all)))) (passes (front ++ signed_decimal u) can after))

  -- heads of a link's vectors, all behind one key
  held_on : (left i : ℕ) (front : List ℕ) (us : List ℤ) (rest : List ℕ)
      → ((k : ℕ) → i ≤ k → k < i + length us → held_front header.junctions k ≡ front)
      → i + length us ≤ 2 * header.junctions → All IsInBox us
      → Passes header E (held_after header.junctions left (i + length us)) rest
      → Passes header E (held_after header.junctions left i) (held_lines front us ++ rest)
  held_on left i front [] rest key within box goes_on =
      subst (λ (k : ℕ). Passes header E (held_after header.junctions left k) rest) (omega arith) goes_on
  held_on left i front (u ∷ us) rest key within box goes_on =
      let n = header.junctions in
      let more = held_lines front us in
      let after = held_on left (i + 1) front us rest (λ k low high. key k (omega (arith, low)) (omega (arith, high)))
      (omega (arith, within)) (All-tail IsInBox u us box)
      (subst (λ (k : ℕ). Passes header E (held_after n left k) rest) (omega arith) goes_on) in
      let here_key : held_front n i ≡ front = key i (omega arith) (omega arith) in
      let text : (front ++ signed_decimal u) ++ (10 ∷ (more ++ rest)) ≡ held_lines front (u ∷ us) ++ rest =
      append_assoc front (signed_decimal u) (10 ∷ (more ++ rest))
      ∙ sym (append_assoc front (signed_decimal u ++ (10 ∷ more)) rest
      ∙ ap (λ t. front ++ t) (append_assoc (signed_decimal u) (10 ∷ more) rest)) in
      let can : CanFollow header (HeldHead left i) (front ++ signed_decimal u) (held_after n left (i + 1)) = (
        record {
          head = u;
          in_box = All-head IsInBox u us box;
          is = ap (λ f. f ++ signed_decimal u) (sym here_key);
        },
        refl,
      ) in
      subst (Passes header E (held_after n left i)) text
      (subst (λ (p : FlowPlace). Passes header E p ((front ++ signed_decimal u) ++ (10 ∷ (more ++ rest))))
      (sym (held_head n left i (omega (arith, within)))) (passes (front ++ signed_decimal u) can after))

  -- a link
  link_on : (named : NamedLink) (left : ℕ) (rest : List ℕ) → IsNamed header.junctions named
      → Passes header E (behind_link left) rest → Passes header E (Name left) (named_text named ++ rest)
  link_on named left rest is goes_on =
      let n = header.junctions in
      let upper = named.held.upper in
      let lower = named.held.lower in
      let long = is.upper.one_each in
      let also = is.lower.one_each in
      let first = held_lines (codes "FU ") upper in
      let second = held_lines (codes "FL ") lower in
      let low = held_on left n (codes "FL ") lower rest (λ k low high. second_key n k low) (omega (arith, also))
      is.lower.in_box
      (subst (λ (p : FlowPlace). Passes header E p rest)
      (sym (held_end n left (n + length lower) (omega (arith, also))))
      goes_on) in
      let up = held_on left 0 (codes "FU ") upper (second ++ rest)
      (λ k low high. first_key n k (omega (arith, high, long))) (omega (arith, long)) is.upper.in_box
      (subst (λ (k : ℕ). Passes header E (held_after n left k) (second ++ rest)) (omega (arith, long)) low) in
      let heads : named_text named ≡ name_line named.link ++ (first ++ second) =
      ap (λ t. name_line named.link ++ t) (ap₂ (λ a b. a ++ b) (sym (held_is (codes "FU") upper))
      (sym (held_is (codes "FL") lower))) in
      let l = words (codes "LINK" ∷ (decimal named.link ∷ [])) in
      let text : l ++ (10 ∷ (first ++ (second ++ rest))) ≡ named_text named ++ rest =
      sym (append_assoc l (10 ∷ []) (first ++ (second ++ rest)))
      ∙ (ap (λ t. name_line named.link ++ t) (sym (append_assoc first second rest))
      ∙ (sym (append_assoc (name_line named.link) (first ++ second) rest) ∙ ap (λ t. t ++ rest) (sym heads))) in
      subst (Passes header E (Name left)) text
      (passes l (named.link, (record { fits = is.link_fits; is = refl }, refl)) up)

  -- links
  links_on : (part : Part) (rest : List ℕ) → All (IsNamed header.junctions) part → Passes header E Between rest
      → Passes header E (behind_link (length part)) (joined (map named_text part) ++ rest)
  links_on [] rest all goes_on = goes_on
  links_on (named ∷ part) rest all goes_on =
      let IsGood = IsNamed header.junctions in
      let after = links_on part rest (All-tail IsGood named part all) goes_on in
      subst (Passes header E (Name (length part)))
      (sym (append_assoc (named_text named) (joined (map named_text part)) rest))
      (link_on named (length part) (joined (map named_text part) ++ rest) (All-head IsGood named part all) after)

  -- a part
  part_on : (part : Part) (rest : List ℕ) → IsPart header.junctions part → Passes header E Between rest
      → Passes header E Flows (part_text part ++ rest)
  part_on [] rest is goes_on = absurd (let some = is.some in omega (arith, some))
  part_on (named ∷ part) rest is goes_on =
      let l = words (codes "FLOWS" ∷ (decimal (suc (length part)) ∷ [])) in
      let links = joined (map named_text (named ∷ part)) in
      let text : l ++ (10 ∷ (links ++ rest)) ≡ part_text (named ∷ part) ++ rest =
      sym (append_assoc l (10 ∷ []) (links ++ rest))
      ∙ sym (append_assoc (flows_line (suc (length part))) links rest) in
      let most = is.at_most in
      subst (Passes header E Flows) text
      (passes l (length part, (record { some = omega arith; at_most = most; is = refl }, refl))
      (links_on (named ∷ part) rest is.each goes_on))

  -- an entry, seen from its PERIOD line
  pub entry_opened : (entry : Entry) (rest : List ℕ) → IsEntry header.junctions header.tanks entry
      → Passes header E Between rest → GoesOn header E Between (entry_text entry ++ rest)
  entry_opened entry rest is goes_on =
      let n = header.junctions in
      let heads = heads_in header.junctions header.tanks in
      let by = by_heads n header.tanks entry.row is.row in
      let whole = by.whole in
      let part = part_text entry.part in
      record {
        line = period_of entry.row;
        rest = head_text n 0 (flat entry.row) ++ (part ++ rest);
        next = flows_after heads 0;
        can = inl (is_period n header.tanks entry.row is.row, refl);
        goes_on = heads_on 0 (flat entry.row) (part ++ rest) (omega (arith, whole)) by.box
            (part_on entry.part rest is.part goes_on);
        is = append_assoc (record_text entry.row) part rest
            ∙ record_parts n header.tanks entry.row (part ++ rest) is.row;
      }

  pub entry_on : (entry : Entry) (rest : List ℕ) → IsEntry header.junctions header.tanks entry
      → Passes header E Between rest → Passes header E Between (entry_text entry ++ rest)
  entry_on entry rest is goes_on =
      let k = entry_opened entry rest is goes_on in
      subst (Passes header E Between) (sym k.is) (passes k.line k.can k.goes_on)

  pub entries_on : (entries : List Entry) (rest : List ℕ) → All (IsEntry header.junctions header.tanks) entries
      → Passes header E Between rest → Passes header E Between (joined (map entry_text entries) ++ rest)
  entries_on [] rest all goes_on = goes_on
  entries_on (entry ∷ entries) rest all goes_on =
      let IsGood = IsEntry header.junctions header.tanks in
      subst (Passes header E Between) (sym (append_assoc (entry_text entry) (joined (map entry_text entries)) rest))
      (entry_on entry (joined (map entry_text entries) ++ rest) (All-head IsGood entry entries all)
      (entries_on entries rest (All-tail IsGood entry entries all) goes_on))

-- the END line
pub end_goes : (header : Header) (periods : ℕ) (finished : Bool) → periods < 2 ^ 32
    → Goes header Between (end_line periods finished)
end_goes header periods finished fits =
    passes (words (codes "END" ∷ (decimal periods ∷ (end_word finished ∷ []))))
    (inr (end_is periods finished fits, refl)) (there (refl, refl))
