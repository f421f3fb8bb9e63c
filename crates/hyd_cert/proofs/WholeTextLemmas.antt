-- What a fault says of the whole text.
use Rattle.std.proofs.Common.{◌≡◌, ◌≢◌, ℕ, suc, ◌+◌, ◌<◌, ◌==◌, Bool, true, false, if◌then◌else◌, ◌⊎◌, List, [], ◌∷◌}
use Rattle.std.proofs.Common.{◌++◌, Option, Some, refl, sym, ap, ap₂, subst, ◌∙◌, append_assoc, inl, inr, arith}
use Rattle.std.proofs.lemmas.Bool.{eqb-true}
use Rattle.hyd_spec_certificates.specs.CertificateText.{line_feeds}
use Rattle.hyd_cert.specs.Lines.{Header, IsHeaderLine}
use Rattle.hyd_line_reader.specs.TextsWithoutLine.{HasNo}
use Rattle.hyd_cert.specs.PlacesOfLines.{Place, First, Between, MayStand, IsFault, here, later, Lacks, CanStand, Goes}
use Rattle.hyd_cert.specs.PlacesOfLines.{goes}
use Rattle.hyd_cert.specs.Faults.{HasOtherHeader}
use Rattle.hyd_cert.specs.FaultyLine.{IsCertificate, IsLines, HasFirstLine, ended, unended, IsFirstFault}
use Rattle.hyd_lemmas.proofs.BooleanTests.{equal_by_order}
use Rattle.hyd_line_reader.proofs.SplitTexts.{split-same, has_none}
use Rattle.hyd_cert.proofs.LineLemmas.{header_is_line}
use Rattle.hyd_cert.proofs.TextsAtFault.{HasRest, between_goes, can_go_on, FaultFrom, fault_from, later_fault}
use Rattle.hyd_cert.proofs.TextsAtFault.{no_certificate, GoesOn, opened, has_rest, header_same, goes_behind}
use Rattle.hyd_cert.proofs.CertificatesLineByLine.{certificate_goes, goes_certificate}

-- a certificate, seen from its header line
first_line : (other : Header) (text : List ℕ) → IsCertificate other text → GoesOn other First text
first_line other text is = opened other First text (certificate_goes other text is) (λ at. absurd (cc))

header_free : (header : Header) (line : List ℕ) → IsHeaderLine header line → HasNo 10 line
header_free header line is = (header_is_line header line is).0

-- where a header line begins a certificate, it is one with that header
with_header : (header other : Header) (line rest : List ℕ) → IsHeaderLine header line
    → IsCertificate other (line ++ (10 ∷ rest)) → Goes header First (line ++ (10 ∷ rest))
with_header header other line rest is certificate =
    let k = first_line other (line ++ (10 ∷ rest)) certificate in
    let same = split-same 10 line k.line rest k.rest (header_free header line is) (header_free other k.line k.can.0)
    k.is in
    subst (λ (h : Header). Goes h First (line ++ (10 ∷ rest))) (header_same other header k.line line k.can.0 is
    (sym same.0)) (certificate_goes other (line ++ (10 ∷ rest)) certificate)

-- no header line begins the text
stops_first : (header : Header) (text : List ℕ) → ((next : Place)
    → Lacks (λ line. MayStand header First line next) (Some text)) → (other : Header) (after : List ℕ)
    → HasFirstLine text after
    → IsCertificate other after → ⊥
stops_first header text lacks other _ (ended line rest after free e) certificate =
    let k = first_line other (line ++ (10 ∷ after)) certificate in
    let same = split-same 10 k.line line k.rest after (header_free other k.line k.can.0) free (sym k.is) in
    lacks Between k.line rest (other, k.can.0) (ap Some (e ∙ ap (λ l. l ++ (10 ∷ rest)) (sym same.0)))
stops_first header text lacks other _ (unended free) certificate =
    let k = first_line other text certificate in
    lacks Between k.line k.rest (other, k.can.0) (ap Some k.is)

-- from a fault at the first place
from_first : (header : Header) (text : List ℕ) (number : ℕ) (k : FaultFrom header First text number)
    → ((other : Header) (after : List ℕ) → HasFirstLine k.rest after → IsCertificate other (k.front ++ after) → ⊥)
    → IsFirstFault header text number
from_first header text number k stops = record {
  front = k.front;
  rest = k.rest;
  parts = k.parts;
  lines = k.lines;
  count = k.count;
  more = k.more;
  goes_on = goes_certificate header (k.front ++ k.more) k.goes_on;
  stops = stops;
}

-- a header line is first, and the fault is behind it
later_first : (header : Header) (line text left : List ℕ) (number : ℕ) → IsHeaderLine header line
    → text ≡ (line ++ (10 ∷ [])) ++ left → FaultFrom header Between left number → IsFirstFault header text (suc number)
later_first header line text left number is whole k =
    from_first header text (suc number) (later_fault header First Between line text left number (is, refl) whole k)
    (λ other after first certificate. k.stops after first (goes_behind header First Between line (k.front ++ after)
    (is, refl)
    (with_header header other line (k.front ++ after) is (subst (IsCertificate other)
    (append_assoc line (10 ∷ k.front) after) certificate))))

first_fault_of : (header : Header) (place : Place) (t : Option (List ℕ)) (known text : List ℕ) (number : ℕ)
    → IsHeaderLine header known → IsFault header place t number → place ≡ First → t ≡ Some text
    → IsFirstFault header text number
first_fault_of header place _ known text _ is (here lacks over) at told =
    let k = can_go_on header First known is in record {
      front = [];
      rest = text;
      parts = refl;
      lines = inl refl;
      count = refl;
      more = k.text;
      goes_on = goes_certificate header k.text k.goes_on;
      stops = stops_first header text (λ next line rest may e. lacks next line rest
          (subst (λ (p : Place). MayStand header p line next) (sym at) may) (told ∙ e));
    }
first_fault_of header place _ known text _ is (later {next = next} line {rest = rest} {number = number} can fault) at
    told =
    let h = has_rest (line ++ (10 ∷ [])) rest text told in
    let first = subst (λ (p : Place). CanStand header p line next) at can in
    later_first header line text h.left number first.0 h.whole
    (fault_from header Between rest number h.left known is (subst (λ (p : Place). IsFault header p rest number)
    first.1 fault) h.told)

pub first_fault : (header : Header) (known text : List ℕ) (number : ℕ) → IsHeaderLine header known
    → IsFault header First (Some text) number → IsFirstFault header text number
first_fault header known text number is fault = first_fault_of header First (Some text) known text number is fault
    refl refl

no_certificate_of : (header other : Header) (place : Place) (t : Option (List ℕ)) (text : List ℕ) (number : ℕ)
    → IsFault header place t number → place ≡ First → t ≡ Some text → IsCertificate other text → ⊥
no_certificate_of header other place _ text _ (here lacks over) at told certificate =
    let k = first_line other text certificate in
    lacks Between k.line k.rest (subst (λ (p : Place). MayStand header p k.line Between) (sym at) (other, k.can.0))
    (told ∙ ap Some k.is)
no_certificate_of header other place _ text _ (later {next = next} line {rest = rest} can fault) at told certificate =
    let h = has_rest (line ++ (10 ∷ [])) rest text told in
    let first = subst (λ (p : Place). CanStand header p line next) at can in
    let whole : text ≡ line ++ (10 ∷ h.left) = h.whole ∙ append_assoc line (10 ∷ []) h.left in
    let goes_on : Goes header First text = subst (Goes header First) (sym whole)
    (with_header header other line h.left first.0 (subst (IsCertificate other) whole certificate)) in
    no_certificate header place _ _ text (later line can fault) told
    (subst (λ (p : Place). Goes header p text) (sym at) goes_on)

pub no_certificate_at_fault : (header other : Header) (text : List ℕ) (number : ℕ)
    → IsFault header First (Some text) number → IsCertificate other text → ⊥
no_certificate_at_fault header other text number fault certificate = no_certificate_of header other First (Some text)
    text number fault refl refl certificate

pub no_certificate_of_others : (header : Header) (text : List ℕ) → HasOtherHeader header (Some text)
    → IsCertificate header text → ⊥
no_certificate_of_others header text is certificate =
    let h = has_rest (is.line ++ (10 ∷ [])) is.rest text (sym is.begins) in
    let k = first_line header text certificate in
    let whole : is.line ++ (10 ∷ h.left) ≡ k.line ++ (10 ∷ k.rest) = sym (append_assoc is.line (10 ∷ []) h.left)
    ∙ (sym h.whole ∙ k.is) in
    let same = split-same 10 is.line k.line h.left k.rest (header_free is.other is.line is.is_header)
    (header_free header k.line k.can.0) whole in
    is.apart (header_same is.other header is.line k.line is.is_header k.can.0 same.0)

-- ---- the sentence names one line, and none of a text that a reader takes or refuses otherwise

record HasLine (text : List ℕ) : Type 0 where
  line : List ℕ
  rest : List ℕ
  free : HasNo 10 line
  is : text ≡ line ++ (10 ∷ rest)

no_feed : (c : ℕ) → (c == 10) ≡ false → c ≢ 10
no_feed c other same = let one : (10 == 10) ≡ false = ap (λ d. d == 10) (sym same) ∙ other in absurd (cc)

feed_by_test : (b : Bool) (c : ℕ) (text : List ℕ) → (c == 10) ≡ b → HasNo 10 text ⊎ HasLine text
    → HasNo 10 (c ∷ text) ⊎ HasLine (c ∷ text)
feed_by_test true c text e more = inr (record {
  line = [];
  rest = text;
  free = tt;
  is = ap (λ d. d ∷ text) (eqb-true c 10 e);
})
feed_by_test false c text e (inl free) = inl (no_feed c e, free)
feed_by_test false c text e (inr more) = inr (record {
  line = c ∷ more.line;
  rest = more.rest;
  free = (no_feed c e, more.free);
  is = ap (λ t. c ∷ t) more.is;
})

-- a text has a line feed or none
first_feed : (text : List ℕ) → HasNo 10 text ⊎ HasLine text
first_feed [] = inl tt
first_feed (c ∷ text) = feed_by_test (c == 10) c text refl (first_feed text)

-- it begins with its own first line
own_line : (text : List ℕ) → HasNo 10 text ⊎ HasLine text → HasFirstLine text text
own_line text (inl free) = unended free
own_line text (inr k) = subst (HasFirstLine text) (sym k.is) (ended k.line k.rest k.rest k.free k.is)

pub fault_no_certificate : (header other : Header) (text : List ℕ) (number : ℕ) → IsFirstFault header text number
    → IsCertificate other text → ⊥
fault_no_certificate header other text number k certificate = k.stops other k.rest
    (own_line k.rest (first_feed k.rest)) (subst (IsCertificate other) k.parts certificate)

pub feeds_append : (a b : List ℕ) → line_feeds (a ++ b) ≡ line_feeds a + line_feeds b
feeds_append [] b = omega arith
feeds_append (c ∷ a) b = let k = feeds_append a b in omega (arith, k)

free_feeds : (text : List ℕ) → HasNo 10 text → line_feeds text ≡ 0
free_feeds [] free = refl
free_feeds (c ∷ text) free = none (c == 10) c (line_feeds text) refl free.0 (free_feeds text free.1)
  where
    none : (b : Bool) (c feeds : ℕ) → (c == 10) ≡ b → c ≢ 10 → feeds ≡ 0 → (if c == 10 then 1 else 0) + feeds ≡ 0
    none true c feeds e apart rest = absurd (apart (eqb-true c 10 e))
    none false c feeds e apart rest = ap (λ (b : Bool). (if b then 1 else 0) + feeds) e ∙ omega (arith, rest)

-- of two fronts of a text one begins with the other
record Begins (a r b s : List ℕ) : Type 0 where
  between : List ℕ
  whole : b ≡ a ++ between
  left : r ≡ between ++ s

one_begins_other : (a r b s : List ℕ) → a ++ r ≡ b ++ s → Begins a r b s ⊎ Begins b s a r
one_begins_other [] r b s e = inl (record { between = b; whole = refl; left = e })
one_begins_other (x ∷ a) r [] s e = inr (record { between = x ∷ a; whole = refl; left = sym e })
one_begins_other (x ∷ a) r (y ∷ b) s e = longer x y a r b s (cc) (one_begins_other a r b s (cc))
  where
    longer : (x y : ℕ) (a r b s : List ℕ) → x ≡ y → Begins a r b s ⊎ Begins b s a r
        → Begins (x ∷ a) r (y ∷ b) s ⊎ Begins (y ∷ b) s (x ∷ a) r
    longer x y a r b s same (inl k) = inl (record {
      between = k.between;
      whole = ap₂ (λ z zs. z ∷ zs) (sym same) k.whole;
      left = k.left;
    })
    longer x y a r b s same (inr k) = inr (record {
      between = k.between;
      whole = ap₂ (λ z zs. z ∷ zs) same k.whole;
      left = k.left;
    })

-- the line of an earlier fault doesn't stand before a later one
not_before : (header : Header) (text : List ℕ) (a b : ℕ) (k : IsFirstFault header text a)
    (m : IsFirstFault header text b) → Begins k.front k.rest m.front m.rest → a < b → ⊥
not_before header text a b k m begins less = stands (first_feed begins.between)
  where
    goes_on : IsCertificate header (k.front ++ (begins.between ++ m.more))
    goes_on = subst (IsCertificate header) (ap (λ f. f ++ m.more) begins.whole ∙ append_assoc k.front begins.between
        m.more) m.goes_on

    feeds : line_feeds m.front ≡ line_feeds k.front + line_feeds begins.between
    feeds = ap line_feeds begins.whole ∙ feeds_append k.front begins.between

    stands : HasNo 10 begins.between ⊎ HasLine begins.between → ⊥
    stands (inl free) = let none = free_feeds begins.between free in let x = k.count in let y = m.count in
        let f = feeds in omega (arith, none, x, y, f, less)
    stands (inr l) =
        let text_of : (t : List ℕ) → begins.between ++ t ≡ l.line ++ (10 ∷ (l.rest ++ t)) = λ t. ap (λ w. w ++ t) l.is
        ∙ append_assoc l.line (10 ∷ l.rest) t in
        k.stops header (begins.between ++ m.more)
        (subst (HasFirstLine k.rest) (sym (text_of m.more)) (ended l.line (l.rest ++ m.rest) (l.rest ++ m.more) l.free
        (begins.left ∙ text_of m.rest))) goes_on

-- nor a front with more line feeds before one with fewer
fewer : (header : Header) (text : List ℕ) (a b : ℕ) (k : IsFirstFault header text a) (m : IsFirstFault header text b)
    → Begins m.front m.rest k.front k.rest → a < b → ⊥
fewer header text a b k m begins less =
    let feeds = ap line_feeds begins.whole ∙ feeds_append m.front begins.between in
    let x = k.count in let y = m.count in omega (arith, feeds, x, y, less)

not_earlier : (header : Header) (text : List ℕ) (a b : ℕ) → IsFirstFault header text a → IsFirstFault header text b
    → a < b → ⊥
not_earlier header text a b k m less = go (one_begins_other k.front k.rest m.front m.rest (sym k.parts ∙ m.parts))
  where
    go : Begins k.front k.rest m.front m.rest ⊎ Begins m.front m.rest k.front k.rest → ⊥
    go (inl begins) = not_before header text a b k m begins less
    go (inr begins) = fewer header text a b k m begins less

pub one_fault : (header : Header) (text : List ℕ) (a b : ℕ) → IsFirstFault header text a → IsFirstFault header text b
    → a ≡ b
one_fault header text a b k m = equal_by_order a b (not_earlier header text a b k m) (not_earlier header text b a m k)

-- a text with the header line of other counts has no such line
ends_here : (other : Header) (line : List ℕ) → IsHeaderLine other line
    → IsCertificate other (line ++ (10 ∷ (between_goes other).text))
ends_here other line is = goes_certificate other (line ++ (10 ∷ (between_goes other).text))
    (goes line (is, refl) (between_goes other).goes_on)

pub fault_or_header : (header : Header) (text : List ℕ) (number : ℕ) → IsFirstFault header text number
    → HasOtherHeader header (Some text) → ⊥
fault_or_header header text number k is = go k.lines
  where
    h : HasRest (is.line ++ (10 ∷ [])) is.rest text
    h = has_rest (is.line ++ (10 ∷ [])) is.rest text (sym is.begins)

    whole : text ≡ is.line ++ (10 ∷ h.left)
    whole = h.whole ∙ append_assoc is.line (10 ∷ []) h.left

    apart : HasLine k.front → ⊥
    apart l =
        let first = first_line header (k.front ++ k.more) k.goes_on in
        let one = split-same 10 l.line first.line (l.rest ++ k.more) first.rest l.free
        (header_free header first.line first.can.0)
        (sym (append_assoc l.line (10 ∷ l.rest) k.more) ∙ (ap (λ f. f ++ k.more) (sym l.is) ∙ first.is)) in
        let other = split-same 10 l.line is.line (l.rest ++ k.rest) h.left l.free
        (header_free is.other is.line is.is_header)
        (sym (append_assoc l.line (10 ∷ l.rest) k.rest) ∙ (ap (λ f. f ++ k.rest) (sym l.is) ∙ (sym k.parts ∙ whole))) in
        is.apart (header_same is.other header is.line first.line is.is_header first.can.0 (sym other.0 ∙ one.0))

    at_first : k.front ≡ [] → ⊥
    at_first none =
        let after = is.line ++ (10 ∷ (between_goes is.other).text) in
        let rest : k.rest ≡ is.line ++ (10 ∷ h.left) = ap (λ f. f ++ k.rest) (sym none) ∙ (sym k.parts ∙ whole) in
        k.stops is.other after (ended is.line h.left (between_goes is.other).text
        (header_free is.other is.line is.is_header) rest)
        (subst (λ f. IsCertificate is.other (f ++ after)) (sym none) (ends_here is.other is.line is.is_header))

    found : (body : List ℕ) → k.front ≡ body ++ (10 ∷ []) → HasNo 10 k.front ⊎ HasLine k.front → ⊥
    found body e (inl free) = has_none 10 body [] (subst (HasNo 10) e free)
    found body e (inr l) = apart l

    go : IsLines k.front → ⊥
    go (inl none) = at_first none
    go (inr body) = found body.0 body.1 (first_feed k.front)
