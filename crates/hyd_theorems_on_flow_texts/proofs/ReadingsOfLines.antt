-- A text that goes from line to line to its end is entries and an END line.
use Rattle.std.proofs.Common.{◌≡◌, ℕ, zero, suc, ◌+◌, ◌*◌, ◌^◌, ◌<◌, ◌≤◌, ℤ, Bool, true, false, nat_lt, List, [], ◌∷◌}
use Rattle.std.proofs.Common.{◌++◌, length, map, take, drop, All, codes, inl, inr, refl, sym, ap, ap₂}
use Rattle.std.proofs.Common.{subst, ◌∙◌, append_assoc, arith}
use Rattle.std.specs.Fmt.{decimal, signed_decimal}
use Rattle.std.proofs.lemmas.Bool.Decides.{Decides-ltb}
use Rattle.std.proofs.lemmas.List.{length-take-le, length-drop, take-append-drop}
use Rattle.std.proofs.lemmas.List.Elements.{All-cons, All-nil, All-take, All-drop}
use Rattle.hyd_spec.specs.Lists.{joined}
use Rattle.hyd_spec_certificates.specs.Certificate.{IsInBox}
use Rattle.hyd_spec_certificates.specs.CertificateText.{words, record_text, end_line}
use Rattle.hyd_spec_flows.specs.FlowParts.{NamedLink, FlowPart as Part}
use Rattle.hyd_spec_flows.specs.FlowTexts.{Entry, IsEntry, IsPart, IsNamed, entry_text, part_text, named_text}
use Rattle.hyd_spec_flows.specs.FlowTexts.{name_line}
use Rattle.hyd_spec_flows.specs.FlowTexts.{flows_line}
use Rattle.hyd_cert.specs.Lines.{Header, IsPeriodLine, IsHeadLine, IsEndLine}
use Rattle.hyd_cert.specs.PlacesOfLines.{front_at, heads_in, head_text}
use Rattle.hyd_cert.specs.PlacesWithFlows.{FlowPlace, Between, Head, Flows, Name, HeldHead, Over, CanFollow}
use Rattle.hyd_cert.specs.PlacesWithFlows.{flows_after, behind_link, held_after, held_front, held_lines, IsFlowsLine}
use Rattle.hyd_cert.specs.PlacesWithFlows.{IsNameLine}
use Rattle.hyd_cert.specs.VectorsOfRecord.{AreVectors}
use Rattle.hyd_cert.proofs.VectorLemmas.{row_with, row_text, row_is}
use Rattle.hyd_cert.proofs.FlowFaultLemmas.{flows_head, first_key, second_key}
use Rattle.hyd_cert.proofs.FlowTextLemmas.{link_parts}
use Rattle.hyd_lemmas.proofs.BooleanTests.{nat-lt-no}
use Rattle.hyd_theorems_on_flow_texts.proofs.LinesThatPass.{there, passes, Goes, flows_end, held_head}
use Rattle.hyd_theorems_on_flow_texts.proofs.LinesThatPass.{held_end}

-- ---- what stands from a place on

-- entries and the end of a text
pub record Entries (header : Header) (text : List ℕ) : Type 0 where
  pub entries : List Entry
  pub periods : ℕ
  pub finished : Bool
  pub fit : All (IsEntry header.junctions header.tanks) entries
  pub periods_fit : periods < 2 ^ 32
  pub is : text ≡ joined (map entry_text entries) ++ end_line periods finished

-- so many links, and then entries
record LinksOn (header : Header) (left : ℕ) (text : List ℕ) : Type 0 where
  part : Part
  rest : List ℕ
  count : length part ≡ left
  fit : All (IsNamed header.junctions) part
  is : text ≡ joined (map named_text part) ++ rest
  others : Entries header rest

-- the lines of a link's heads from this number on
abbrev held_from : ℕ → ℕ → List ℤ → List ℕ
held_from n i [] = []
held_from n i (u ∷ us) = held_front n i ++ (signed_decimal u ++ (10 ∷ held_from n (i + 1) us))

-- a link's heads from this number on, and then so many links
record HeldOn (header : Header) (left i : ℕ) (text : List ℕ) : Type 0 where
  heads : List ℤ
  rest : List ℕ
  count : i + length heads ≡ 2 * header.junctions
  box : All IsInBox heads
  is : text ≡ held_from header.junctions i heads ++ rest
  others : LinksOn header left rest

-- a part, and then entries
record PartOn (header : Header) (text : List ℕ) : Type 0 where
  part : Part
  rest : List ℕ
  fits : IsPart header.junctions part
  is : text ≡ part_text part ++ rest
  others : Entries header rest

-- a record's heads from this number on, and then a part
record HeadsOn (header : Header) (i : ℕ) (text : List ℕ) : Type 0 where
  heads : List ℤ
  rest : List ℕ
  count : i + length heads ≡ heads_in header.junctions header.tanks
  box : All IsInBox heads
  is : text ≡ head_text header.junctions i heads ++ rest
  others : PartOn header rest

-- what a text that goes on from a place is
abbrev ReadFrom : Header → FlowPlace → List ℕ → Type 0
ReadFrom header Between text = Entries header text
ReadFrom header (Head i) text = i < heads_in header.junctions header.tanks → HeadsOn header i text
ReadFrom header Flows text = PartOn header text
ReadFrom header (Name left) text = LinksOn header (suc left) text
ReadFrom header (HeldHead left i) text = i < 2 * header.junctions → HeldOn header left i text
ReadFrom header Over text = text ≡ []

-- ---- behind so many heads or links

heads_by_test : (header : Header) (i : ℕ) (text : List ℕ) (b : Bool)
    → nat_lt i (heads_in header.junctions header.tanks) ≡ b → i ≤ heads_in header.junctions header.tanks
    → ReadFrom header (flows_after (heads_in header.junctions header.tanks) i) text → HeadsOn header i text
heads_by_test header i text true e within reads =
    let heads = heads_in header.junctions header.tanks in
    let less = (Decides-ltb i heads).0 e in
    subst (λ (p : FlowPlace). ReadFrom header p text) (flows_head heads i less) reads less
heads_by_test header i text false e within reads =
    let heads = heads_in header.junctions header.tanks in
    let far : heads ≤ i = nat-lt-no i heads e in
    record {
      heads = [];
      rest = text;
      count = omega (arith, far, within);
      box = All-nil IsInBox;
      is = refl;
      others = subst (λ (p : FlowPlace). ReadFrom header p text) (flows_end heads i far) reads;
    }

at_heads : (header : Header) (i : ℕ) (text : List ℕ) → i ≤ heads_in header.junctions header.tanks
    → ReadFrom header (flows_after (heads_in header.junctions header.tanks) i) text → HeadsOn header i text
at_heads header i text within reads = heads_by_test header i text (nat_lt i (heads_in header.junctions header.tanks))
    refl within reads

at_links : (header : Header) (left : ℕ) (text : List ℕ) → ReadFrom header (behind_link left) text
    → LinksOn header left text
at_links header zero text reads = record {
  part = [];
  rest = text;
  count = refl;
  fit = All-nil (IsNamed header.junctions);
  is = refl;
  others = reads;
}
at_links header (suc left) text reads = reads

held_by_test : (header : Header) (left i : ℕ) (text : List ℕ) (b : Bool) → nat_lt i (2 * header.junctions) ≡ b
    → i ≤ 2 * header.junctions → ReadFrom header (held_after header.junctions left i) text → HeldOn header left i text
held_by_test header left i text true e within reads =
    let less = (Decides-ltb i (2 * header.junctions)).0 e in
    subst (λ (p : FlowPlace). ReadFrom header p text) (held_head header.junctions left i less) reads less
held_by_test header left i text false e within reads =
    let far : 2 * header.junctions ≤ i = nat-lt-no i (2 * header.junctions) e in
    record {
      heads = [];
      rest = text;
      count = omega (arith, far, within);
      box = All-nil IsInBox;
      is = refl;
      others = at_links header left text (subst (λ (p : FlowPlace). ReadFrom header p text)
          (held_end header.junctions left i far) reads);
    }

at_held : (header : Header) (left i : ℕ) (text : List ℕ) → i ≤ 2 * header.junctions
    → ReadFrom header (held_after header.junctions left i) text → HeldOn header left i text
at_held header left i text within reads = held_by_test header left i text (nat_lt i (2 * header.junctions)) refl
    within reads

-- ---- heads of a link

-- those of one key
held_lines_of : (n i : ℕ) (front : List ℕ) (us : List ℤ) → ((k : ℕ) → i ≤ k → k < i + length us
    → held_front n k ≡ front) → held_from n i us ≡ held_lines front us
held_lines_of n i front [] key = refl
held_lines_of n i front (u ∷ us) key =
    ap₂ (λ f t. f ++ (signed_decimal u ++ (10 ∷ t))) (key i (omega arith) (omega arith))
    (held_lines_of n (i + 1) front us (λ k low high. key k (omega (arith, low)) (omega (arith, high))))

held_append : (n i : ℕ) (us ws : List ℤ) → held_from n i (us ++ ws) ≡ held_from n i us
    ++ held_from n (i + length us) ws
held_append n i [] ws = ap (λ k. held_from n k ws) (let e : i ≡ i + 0 = omega arith in e)
held_append n i (u ∷ us) ws =
    let front = held_front n i in
    let more = held_from n (i + 1) us in
    let far : i + 1 + length us ≡ i + suc (length us) = omega arith in
    let behind = held_from n (i + suc (length us)) ws in
    ap (λ t. front ++ (signed_decimal u ++ (10 ∷ t))) (held_append n (i + 1) us ws
    ∙ ap (λ k. more ++ held_from n k ws) far)
    ∙ sym (append_assoc front (signed_decimal u ++ (10 ∷ more)) behind
    ∙ ap (λ t. front ++ t) (append_assoc (signed_decimal u) (10 ∷ more) behind))

-- both vectors
both_held : (n : ℕ) (upper lower : List ℤ) → length upper ≡ n → length lower ≡ n
    → held_from n 0 (upper ++ lower) ≡ held_lines (codes "FU ") upper ++ held_lines (codes "FL ") lower
both_held n upper lower long also =
    held_append n 0 upper lower
    ∙ ap₂ (λ a b. a ++ b)
    (held_lines_of n 0 (codes "FU ") upper (λ k low high. first_key n k (omega (arith, high, long))))
    (ap (λ k. held_from n k lower) (let e : 0 + length upper ≡ n = omega (arith, long) in e)
    ∙ held_lines_of n n (codes "FL ") lower (λ k low high. second_key n k low))

-- a link, by its heads
abbrev link_by : ℕ → ℕ → List ℤ → NamedLink
link_by n number heads = record { link = number; held = record { upper = take n heads; lower = drop n heads } }

link_fits : (n number : ℕ) (heads : List ℤ) → number < 2 ^ 32 → length heads ≡ 2 * n → All IsInBox heads
    → IsNamed n (link_by n number heads)
link_fits n number heads small long box = record {
  link_fits = small;
  upper = record {
    one_each = length-take-le n heads (omega (arith, long));
    in_box = All-take IsInBox n heads box;
  };
  lower = record {
    one_each = (let e = length-drop n heads in omega (arith, e, long));
    in_box = All-drop IsInBox n heads box;
  };
}

link_text : (n number : ℕ) (heads : List ℤ) → length heads ≡ 2 * n
    → name_line number ++ held_from n 0 heads ≡ named_text (link_by n number heads)
link_text n number heads long =
    let upper = take n heads in
    let lower = drop n heads in
    let first : length upper ≡ n = length-take-le n heads (omega (arith, long)) in
    let second : length lower ≡ n = (let e = length-drop n heads in omega (arith, e, long)) in
    let named = link_by n number heads in
    ap (λ t. name_line number ++ t) (ap (held_from n 0) (sym (take-append-drop n heads))
    ∙ both_held n upper lower first second)
    ∙ (sym (append_assoc (name_line number) (held_lines (codes "FU ") upper) (held_lines (codes "FL ") lower))
    ∙ link_parts named upper lower refl refl)

-- ---- line by line

read_head : (header : Header) (i : ℕ) (line rest : List ℕ) → IsHeadLine (front_at header.junctions i) line
    → HeadsOn header (i + 1) rest → HeadsOn header i (line ++ (10 ∷ rest))
read_head header i line rest is k =
    let front = front_at header.junctions i in
    let more = head_text header.junctions (i + 1) k.heads in
    record {
      heads = is.head ∷ k.heads;
      rest = k.rest;
      count = (let c = k.count in omega (arith, c));
      box = All-cons IsInBox is.head k.heads is.in_box k.box;
      is = ap₂ (λ l r. l ++ (10 ∷ r)) is.is k.is
          ∙ (append_assoc front (signed_decimal is.head) (10 ∷ (more ++ k.rest))
          ∙ sym (append_assoc front (signed_decimal is.head ++ (10 ∷ more)) k.rest ∙ ap (λ t. front ++ t)
          (append_assoc (signed_decimal is.head) (10 ∷ more) k.rest)));
      others = k.others;
    }

read_held : (header : Header) (left i : ℕ) (line rest : List ℕ) → IsHeadLine (held_front header.junctions i) line
    → HeldOn header left (i + 1) rest → HeldOn header left i (line ++ (10 ∷ rest))
read_held header left i line rest is k =
    let front = held_front header.junctions i in
    let more = held_from header.junctions (i + 1) k.heads in
    record {
      heads = is.head ∷ k.heads;
      rest = k.rest;
      count = (let c = k.count in omega (arith, c));
      box = All-cons IsInBox is.head k.heads is.in_box k.box;
      is = ap₂ (λ l r. l ++ (10 ∷ r)) is.is k.is
          ∙ (append_assoc front (signed_decimal is.head) (10 ∷ (more ++ k.rest))
          ∙ sym (append_assoc front (signed_decimal is.head ++ (10 ∷ more)) k.rest ∙ ap (λ t. front ++ t)
          (append_assoc (signed_decimal is.head) (10 ∷ more) k.rest)));
      others = k.others;
    }

read_link : (header : Header) (left number : ℕ) (line rest : List ℕ) → IsNameLine number line
    → HeldOn header left 0 rest → LinksOn header (suc left) (line ++ (10 ∷ rest))
read_link header left number line rest is k =
    let n = header.junctions in
    let long : length k.heads ≡ 2 * n = (let c = k.count in omega (arith, c)) in
    let named = link_by n number k.heads in
    let l = words (codes "LINK" ∷ (decimal number ∷ [])) in
    let links = joined (map named_text k.others.part) in
    let held = held_from n 0 k.heads in
    record {
      part = named ∷ k.others.part;
      rest = k.others.rest;
      count = (let c = k.others.count in omega (arith, c));
      fit = All-cons (IsNamed n) named k.others.part (link_fits n number k.heads is.fits long k.box) k.others.fit;
      is = ap₂ (λ t r. t ++ (10 ∷ r)) is.is (k.is ∙ ap (λ r. held ++ r) k.others.is)
          ∙ (sym (append_assoc l (10 ∷ []) (held ++ (links ++ k.others.rest)))
          ∙ (sym (append_assoc (name_line number) held (links ++ k.others.rest))
          ∙ (ap (λ t. t ++ (links ++ k.others.rest)) (link_text n number k.heads long)
          ∙ sym (append_assoc (named_text named) links k.others.rest))));
      others = k.others.others;
    }

read_part : (header : Header) (left : ℕ) (line rest : List ℕ) → IsFlowsLine (suc left) line
    → LinksOn header (suc left) rest → PartOn header (line ++ (10 ∷ rest))
read_part header left line rest is k =
    let l = words (codes "FLOWS" ∷ (decimal (suc left) ∷ [])) in
    let links = joined (map named_text k.part) in
    let many = k.count in
    record {
      part = k.part;
      rest = k.rest;
      fits = record {
        some = omega (arith, many);
        at_most = (let most = is.at_most in omega (arith, many, most));
        each = k.fit;
      };
      is = ap₂ (λ t r. t ++ (10 ∷ r)) is.is k.is
          ∙ (sym (append_assoc l (10 ∷ []) (links ++ k.rest))
          ∙ (sym (append_assoc (flows_line (suc left)) links k.rest)
          ∙ ap (λ c. (flows_line c ++ links) ++ k.rest) (sym many)));
      others = k.others;
    }

read_entry : (header : Header) (line rest : List ℕ) → IsPeriodLine line → HeadsOn header 0 rest
    → Entries header (line ++ (10 ∷ rest))
read_entry header line rest is k =
    let n = header.junctions in
    let row = row_with n header.tanks is.number is.time is.length k.heads in
    let whole : AreVectors n header.tanks k.heads = (let c = k.count in omega (arith, c)) in
    let good = row_is n header.tanks is.number is.time is.length k.heads k.heads refl whole k.box is.number_fits
    is.time_fits is.length_fits in
    let period = words (codes "PERIOD" ∷ (decimal is.number ∷ (decimal is.time ∷ (decimal is.length ∷ [])))) in
    let part = part_text k.others.part in
    let entry : Entry = record { row = row; part = k.others.part } in
    let others = k.others.others in
    let more = joined (map entry_text others.entries) ++ end_line others.periods others.finished in
    let heads = head_text n 0 k.heads in
    let record_is : record_text row ≡ (period ++ (10 ∷ [])) ++ heads =
    row_text n header.tanks is.number is.time is.length k.heads whole in
    let text : line ++ (10 ∷ rest) ≡ entry_text entry ++ more =
    ap₂ (λ l r. l ++ (10 ∷ r)) is.is (k.is ∙ ap (λ r. heads ++ r) (k.others.is ∙ ap (λ r. part ++ r) others.is))
    ∙ (sym (append_assoc period (10 ∷ []) (heads ++ (part ++ more)))
    ∙ (sym (append_assoc (period ++ (10 ∷ [])) heads (part ++ more))
    ∙ (ap (λ t. t ++ (part ++ more)) (sym record_is) ∙ sym (append_assoc (record_text row) part more)))) in
    record {
      entries = entry ∷ others.entries;
      periods = others.periods;
      finished = others.finished;
      fit = All-cons (IsEntry n header.tanks) entry others.entries (record { row = good; part = k.others.fits })
          others.fit;
      periods_fit = others.periods_fit;
      is = text ∙ sym (append_assoc (entry_text entry) (joined (map entry_text others.entries))
          (end_line others.periods others.finished));
    }

read_end : (header : Header) (line rest : List ℕ) → IsEndLine line → rest ≡ [] → Entries header (line ++ (10 ∷ rest))
read_end header line rest is none = record {
  entries = [];
  periods = is.periods;
  finished = is.finished;
  fit = All-nil (IsEntry header.junctions header.tanks);
  periods_fit = is.periods_fit;
  is = ap₂ (λ l r. l ++ (10 ∷ r)) is.is none;
}

read_line : (header : Header) (place next : FlowPlace) (line rest : List ℕ) → CanFollow header place line next
    → ReadFrom header next rest → ReadFrom header place (line ++ (10 ∷ rest))
read_line header Between next line rest (inl can) reads =
    read_entry header line rest can.0 (at_heads header 0 rest (omega arith)
    (subst (λ (p : FlowPlace). ReadFrom header p rest) can.1 reads))
read_line header Between next line rest (inr can) reads = read_end header line rest can.0
    (subst (λ (p : FlowPlace). ReadFrom header p rest) can.1 reads)
read_line header (Head i) next line rest can reads = λ less.
    read_head header i line rest can.0 (at_heads header (i + 1) rest (omega (arith, less))
    (subst (λ (p : FlowPlace). ReadFrom header p rest) can.1 reads))
read_line header Flows next line rest can reads =
    read_part header can.0 line rest can.1.0 (subst (λ (p : FlowPlace). ReadFrom header p rest) can.1.1 reads)
read_line header (Name left) next line rest can reads =
    read_link header left can.0 line rest can.1.0 (at_held header left 0 rest (omega arith)
    (subst (λ (p : FlowPlace). ReadFrom header p rest) can.1.1 reads))
read_line header (HeldHead left i) next line rest can reads = λ less.
    read_held header left i line rest can.0 (at_held header left (i + 1) rest (omega (arith, less))
    (subst (λ (p : FlowPlace). ReadFrom header p rest) can.1 reads))
read_line header Over next line rest can reads = absurd can

read_at_end : (header : Header) (place : FlowPlace) (text : List ℕ) → (place ≡ Over) × (text ≡ [])
    → ReadFrom header place text
read_at_end header place text e = subst (λ (p : FlowPlace). ReadFrom header p text) (sym e.0) e.1

read_from : (header : Header) (place : FlowPlace) (text : List ℕ) → Goes header place text
    → ReadFrom header place text
read_from header _ _ (there e) = read_at_end header _ _ e
read_from header _ _ (passes line can rest) = read_line header _ _ line _ can (read_from header _ _ rest)

pub entries_of_text : (header : Header) (text : List ℕ) → Goes header Between text → Entries header text
entries_of_text header text goes_on = read_from header Between text goes_on
