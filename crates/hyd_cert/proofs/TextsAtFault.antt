-- A text that is at fault goes on to no certificate, and the lines before do.
use Rattle.std.proofs.Common.{◌≡◌, ◌≢◌, ℕ, suc, ◌+◌, ◌/◌, ◌<◌, List, [], ◌∷◌, ◌++◌, get_or, Option, Some, None, refl}
use Rattle.std.proofs.Common.{sym, ap, ◌∙◌, subst, inl, inr, codes, append_assoc, arith, zero, ◌≤◌, pos, Bool, true}
use Rattle.std.proofs.Common.{false, nat_lt, ◌==◌, if◌then◌else◌}
use Rattle.std.specs.Fmt.{decimal, signed_decimal}
use Rattle.std.proofs.lemmas.Int.{ints}
use Rattle.std.proofs.lemmas.Bool.Decides.{Decides-ltb}
use Rattle.hyd_spec_certificates.specs.CertificateText.{words, line_feeds}
use Rattle.hyd_cert.specs.Lines.{Header, IsHeaderLine, end_word}
use Rattle.hyd_io.specs.DeskBytes.{prepend_known}
use Rattle.hyd_line_reader.specs.TextsWithoutLine.{HasNo}
use Rattle.hyd_cert.specs.PlacesOfLines.{Place, First, Between, Head, Over, CanStand, MayStand, IsFault, here, later}
use Rattle.hyd_cert.specs.PlacesOfLines.{front_at, heads_in, place_after, Goes, ends, goes}
use Rattle.hyd_lemmas.proofs.ListsOptionsAndResults.{same_item}
use Rattle.hyd_theorems_on_definitions.proofs.CertificateLines.{decimal-same}
use Rattle.hyd_line_reader.proofs.SplitTexts.{split-same}
use Rattle.std.proofs.lemmas.Bool.{eqb-true}
use Rattle.std.proofs.lemmas.List.{append_cancel_left}
use Rattle.hyd_cert.specs.PlacesOfLines.{Lacks}
use Rattle.hyd_cert.specs.FaultyLine.{IsLines, HasFirstLine, ended, unended}
use Rattle.hyd_cert.proofs.LineLemmas.{header_is_line, next_is_line, head_is_line, known_short, wide_free}
use Rattle.hyd_cert.proofs.HeadLemmas.{is_front, end_is}

-- a line that can stand has no line feed
pub stands_alone : (header : Header) (place next : Place) (l : List ℕ) → CanStand header place l next → HasNo 10 l
stands_alone header First next l can = (header_is_line header l can.0).0
stands_alone header Between next l (inl is) = (next_is_line l (inl is.0)).0
stands_alone header Between next l (inr is) = (next_is_line l (inr is.0)).0
stands_alone header (Head i) next l can = (head_is_line (front_at header.junctions i) l
    (is_front (i / header.junctions)) can.0).0
stands_alone header Over next l can = absurd can

pub may_stand : (header : Header) (place next : Place) (l : List ℕ) → CanStand header place l next
    → MayStand header place l next
may_stand header First next l can = (header, can.0)
may_stand header Between next l can = can
may_stand header (Head i) next l can = can
may_stand header Over next l can = can

-- the place behind a line is one
pub next_same : (header : Header) (place next other : Place) (l m : List ℕ) → l ≡ m → CanStand header place l next
    → CanStand header place m other → next ≡ other
next_same header First next other l m e can stands = can.1 ∙ sym stands.1
next_same header Between next other l m e (inl is) (inl was) = is.1 ∙ sym was.1
next_same header Between next other l m e (inr is) (inr was) = is.1 ∙ sym was.1
next_same header Between next other l m e (inl is) (inr was) = let first : 80 ≡ 69 = ap (λ (t : List ℕ). get_or t 0 0)
    (sym is.0.is ∙ (e ∙ was.0.is)) in absurd (omega (arith, first))
next_same header Between next other l m e (inr is) (inl was) = let first : 69 ≡ 80 = ap (λ (t : List ℕ). get_or t 0 0)
    (sym is.0.is ∙ (e ∙ was.0.is)) in absurd (omega (arith, first))
next_same header (Head i) next other l m e can stands = can.1 ∙ sym stands.1
next_same header Over next other l m e can stands = absurd can

-- what goes on from a place, seen from its line
pub record GoesOn (header : Header) (place : Place) (text : List ℕ) : Type 0 where
  pub line : List ℕ
  pub rest : List ℕ
  pub next : Place
  pub can : CanStand header place line next
  pub goes_on : Goes header next rest
  pub is : text ≡ line ++ (10 ∷ rest)

pub opened : (header : Header) (place : Place) (text : List ℕ) → Goes header place text → (place ≡ Over → text ≢ [])
    → GoesOn header place text
opened header _ _ ends some = absurd (some refl refl)
opened header _ _ (goes line can rest) some = record {
  line = line;
  rest = _;
  next = _;
  can = can;
  goes_on = rest;
  is = refl;
}

none_over : (header : Header) (place next : Place) (l : List ℕ) → place ≡ Over → CanStand header place l next → ⊥
none_over header place next l e can = subst (λ (p : Place). CanStand header p l next) e can

-- what is told of a text with a known front
pub record HasRest (a : List ℕ) (rest : Option (List ℕ)) (text : List ℕ) : Type 0 where
  pub left : List ℕ
  pub told : rest ≡ Some left
  pub whole : text ≡ a ++ left

pub has_rest : (a : List ℕ) (rest : Option (List ℕ)) (text : List ℕ) → prepend_known a rest ≡ Some text
    → HasRest a rest text
has_rest a None text e = absurd (cc)
has_rest a (Some left) text e = record { left = left; told = refl; whole = sym (same_item _ (a ++ left) text e) }

-- a text at fault doesn't go on to the end
pub no_certificate : (header : Header) (place : Place) (t : Option (List ℕ)) (number : ℕ) (text : List ℕ)
    → IsFault header place t number → t ≡ Some text
    → Goes header place text → ⊥
no_certificate header _ _ _ text (here lacks over) told goes_on =
    let k = opened header _ text goes_on (λ at empty. over at (told ∙ ap Some empty)) in
    lacks k.next k.line k.rest (may_stand header _ k.next k.line k.can) (told ∙ ap Some k.is)
no_certificate header _ _ _ text (later line can fault) told goes_on =
    let h = has_rest (line ++ (10 ∷ [])) _ text told in
    let k = opened header _ text goes_on (λ at empty. none_over header _ _ line at can) in
    let whole : k.line ++ (10 ∷ k.rest) ≡ line ++ (10 ∷ h.left) = sym k.is
    ∙ (h.whole ∙ append_assoc line (10 ∷ []) h.left) in
    let same = split-same 10 k.line line k.rest h.left (stands_alone header _ k.next k.line k.can)
    (stands_alone header _ _ line can) whole in
    let place = next_same header _ k.next _ k.line line same.0 k.can can in
    no_certificate header _ _ _ h.left fault h.told
    (subst (λ (p : Place). Goes header p h.left) place (subst (λ (r : List ℕ). Goes header k.next r) same.1 k.goes_on))

-- ---- from each place a text can go on to the end

pub record CanGoOn (header : Header) (place : Place) : Type 0 where
  pub text : List ℕ
  pub goes_on : Goes header place text

pub between_goes : (header : Header) → CanGoOn header Between
between_goes header = record {
  text = _;
  goes_on = goes (words (codes "END" ∷ (decimal 0 ∷ (end_word false ∷ []))))
      (inr (end_is 0 false (omega arith), refl)) ends;
}

head_goes : (header : Header) (i : ℕ) → CanGoOn header (place_after (heads_in header.junctions header.tanks) (i + 1))
    → CanGoOn header (Head i)
head_goes header i next = record {
  text = _;
  goes_on = goes (front_at header.junctions i ++ signed_decimal (pos 0)) (
    record {
      head = pos 0;
      in_box = record { above_floor = omega (arith, ints); below_ceiling = omega (arith, ints) };
      is = refl;
    },
    refl,
  )
      next.goes_on;
}

by_test : (header : Header) (i : ℕ) (b : Bool) → nat_lt i (heads_in header.junctions header.tanks) ≡ b
    → (i < heads_in header.junctions header.tanks → CanGoOn header (Head i))
    → CanGoOn header (if b then Head i else Between)
by_test header i true e here_too = here_too ((Decides-ltb i (heads_in header.junctions header.tanks)).0 e)
by_test header i false e here_too = between_goes header

heads_go : (header : Header) (left i : ℕ) → heads_in header.junctions header.tanks ≤ i + left
    → CanGoOn header (place_after (heads_in header.junctions header.tanks) i)
heads_go header zero i low = by_test header i (nat_lt i (heads_in header.junctions header.tanks)) refl
    (λ more. absurd (omega (arith, low, more)))
heads_go header (suc left) i low =
    by_test header i (nat_lt i (heads_in header.junctions header.tanks)) refl
    (λ more. head_goes header i (heads_go header left (i + 1) (omega (arith, low))))

pub can_go_on : (header : Header) (place : Place) (line : List ℕ) → IsHeaderLine header line → CanGoOn header place
can_go_on header First line is = record { text = _; goes_on = goes line (is, refl) (between_goes header).goes_on }
can_go_on header Between line is = between_goes header
can_go_on header (Head i) line is = head_goes header i (heads_go header (heads_in header.junctions header.tanks)
    (i + 1) (omega arith))
can_go_on header Over line is = record { text = []; goes_on = ends }

-- ---- one header for a line

pub header_same : (header other : Header) (l m : List ℕ) → IsHeaderLine header l → IsHeaderLine other m → l ≡ m
    → header ≡ other
header_same header other l m p q e =
    let version = known_short header p.known in
    let version' = known_short other q.known in
    let rest = decimal header.junctions ++ (32 ∷ decimal header.tanks) in
    let rest' = decimal other.junctions ++ (32 ∷ decimal other.tanks) in
    let whole = append_cancel_left (codes "HYDCERT ") (decimal header.version ++ (32 ∷ rest))
    (decimal other.version ++ (32 ∷ rest')) (sym p.is ∙ (e ∙ q.is)) in
    let first = split-same 32 (decimal header.version) (decimal other.version) rest rest'
    (wide_free 32 header.version (omega arith) version) (wide_free 32 other.version (omega arith) version') whole in
    let second = split-same 32 (decimal header.junctions) (decimal other.junctions) (decimal header.tanks)
    (decimal other.tanks) (wide_free 32 header.junctions (omega arith) p.junctions_fit)
    (wide_free 32 other.junctions (omega arith) q.junctions_fit) first.1 in
    ap (λ v. record header { version = v }) (decimal-same header.version other.version version version' first.0)
    ∙ (ap (λ n. record other {
      junctions = n;
      tanks = header.tanks;
    }) (decimal-same header.junctions other.junctions p.junctions_fit q.junctions_fit second.0)
    ∙ ap (λ k. record other { tanks = k }) (decimal-same header.tanks other.tanks p.tanks_fit q.tanks_fit second.1))

-- ---- the first line that is at fault

-- from a place on
pub record FaultFrom (header : Header) (place : Place) (text : List ℕ) (number : ℕ) : Type 0 where
  pub front : List ℕ
  pub rest : List ℕ
  pub parts : text ≡ front ++ rest
  pub lines : IsLines front
  pub count : line_feeds front + 1 ≡ number
  pub more : List ℕ
  pub goes_on : Goes header place (front ++ more)
  pub stops : (after : List ℕ) → HasFirstLine rest after → Goes header place (front ++ after) → ⊥

stops_here : (header : Header) (place : Place) (text : List ℕ)
    → ((next : Place) → Lacks (λ line. MayStand header place line next) (Some text))
    → (place ≡ Over → Some text ≢ Some [])
    → (after : List ℕ) → HasFirstLine text after → Goes header place after → ⊥
stops_here header place text lacks over _ (ended line rest after free e) goes_on =
    let k = opened header place (line ++ (10 ∷ after)) goes_on (λ at. not_nothing line after) in
    let same = split-same 10 k.line line k.rest after (stands_alone header place k.next k.line k.can) free (sym k.is) in
    lacks k.next k.line rest (may_stand header place k.next k.line k.can)
    (ap Some (e ∙ ap (λ l. l ++ (10 ∷ rest)) (sym same.0)))
  where
    not_nothing : (l r : List ℕ) → l ++ (10 ∷ r) ≢ []
    not_nothing [] r e = cc
    not_nothing (c ∷ l) r e = cc
stops_here header place text lacks over _ (unended free) goes_on =
    let k = opened header place text goes_on (λ at empty. over at (ap Some empty)) in
    lacks k.next k.line k.rest (may_stand header place k.next k.line k.can) (ap Some k.is)

by_feed : (b : Bool) (c feeds others : ℕ) → (c == 10) ≡ b → c ≢ 10 → feeds ≡ 1 + others
    → (if c == 10 then 1 else 0) + feeds ≡ 1 + others
by_feed true c feeds others e apart so_far = absurd (apart (eqb-true c 10 e))
by_feed false c feeds others e apart so_far = ap (λ (b : Bool). (if b then 1 else 0) + feeds) e ∙ omega (arith, so_far)

pub no_feeds : (line rest : List ℕ) → HasNo 10 line → line_feeds (line ++ (10 ∷ rest)) ≡ 1 + line_feeds rest
no_feeds [] rest free = refl
no_feeds (c ∷ line) rest free = by_feed (c == 10) c (line_feeds (line ++ (10 ∷ rest))) (line_feeds rest) refl free.0
    (no_feeds line rest free.1)

pub is_lines_more : (line front : List ℕ) → IsLines front → IsLines (line ++ (10 ∷ front))
is_lines_more line front (inl e) = inr (line, ap (λ f. line ++ (10 ∷ f)) e)
is_lines_more line front (inr body) = inr (
  line ++ (10 ∷ body.0),
  ap (λ f. line ++ (10 ∷ f)) body.1
      ∙ sym (append_assoc line (10 ∷ body.0) (10 ∷ [])),
)

-- what a text goes on with behind a line that can stand
pub goes_behind : (header : Header) (place next : Place) (line rest : List ℕ) → CanStand header place line next
    → Goes header place (line ++ (10 ∷ rest)) → Goes header next rest
goes_behind header place next line rest can goes_on =
    let k = opened header place (line ++ (10 ∷ rest)) goes_on (λ at empty. none_over header place next line at can) in
    let same = split-same 10 k.line line k.rest rest (stands_alone header place k.next k.line k.can)
    (stands_alone header place next line can) (sym k.is) in
    let after = next_same header place k.next next k.line line same.0 k.can can in
    subst (λ (p : Place). Goes header p rest) after (subst (λ (r : List ℕ). Goes header k.next r) same.1 k.goes_on)

abbrev pub later_fault : (header : Header) (place next : Place) (line text left : List ℕ) (number : ℕ)
    → CanStand header place line next → text ≡ (line ++ (10 ∷ [])) ++ left → FaultFrom header next left number
    → FaultFrom header place text (suc number)
later_fault header place next line text left number can whole k = record {
  front = line ++ (10 ∷ k.front);
  rest = k.rest;
  parts = whole ∙ (append_assoc line (10 ∷ []) left ∙ (ap (λ r. line ++ (10 ∷ r)) k.parts
      ∙ sym (append_assoc line (10 ∷ k.front) k.rest)));
  lines = is_lines_more line k.front k.lines;
  count = (let feeds = no_feeds line k.front (stands_alone header place next line can) in let so_far = k.count in
      omega (arith, feeds, so_far));
  more = k.more;
  goes_on = subst (Goes header place) (sym (append_assoc line (10 ∷ k.front) k.more)) (goes line can k.goes_on);
  stops = λ after first goes_on. k.stops after first (goes_behind header place next line (k.front ++ after) can
      (subst (Goes header place) (append_assoc line (10 ∷ k.front) after) goes_on));
}

pub fault_from : (header : Header) (place : Place) (t : Option (List ℕ)) (number : ℕ) (text known : List ℕ)
    → IsHeaderLine header known → IsFault header place t number → t ≡ Some text
    → FaultFrom header place text number
fault_from header place _ _ text known is (here lacks over) told =
    let k = can_go_on header place known is in record {
      front = [];
      rest = text;
      parts = refl;
      lines = inl refl;
      count = refl;
      more = k.text;
      goes_on = k.goes_on;
      stops = stops_here header place text (λ next line rest may e. lacks next line rest may (told ∙ e))
          (λ at e. over at (told ∙ e));
    }
fault_from header place _ _ text known is (later line can fault) told =
    let h = has_rest (line ++ (10 ∷ [])) _ text told in
    later_fault header place _ line text h.left _ can h.whole (fault_from header _ _ _ h.left known is fault h.told)
