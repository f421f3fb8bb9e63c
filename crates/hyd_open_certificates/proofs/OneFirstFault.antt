-- A text is at fault in one line at most.
use Rattle.std.proofs.Common.{◌≡◌, ◌≢◌, ℕ, ◌+◌, ◌<◌, ◌==◌, Bool, true, false, if◌then◌else◌, ◌⊎◌, List, [], ◌∷◌, ◌++◌}
use Rattle.std.proofs.Common.{Some, refl, sym, ap, ap₂, subst, ◌∙◌, append_assoc, inl, inr, arith}
use Rattle.std.proofs.lemmas.Bool.{eqb-true}
use Rattle.hyd_spec_certificates.specs.CertificateText.{end_line, line_feeds}
use Rattle.hyd_spec_witnesses.specs.FaultyLine.{IsLines, HasFirstLine, ended}
use Rattle.hyd_lemmas.proofs.BooleanTests.{equal_by_order}
use Rattle.hyd_line_reader.specs.TextsWithoutLine.{HasNo}
use Rattle.hyd_line_reader.proofs.SplitTexts.{split-same, has_none}
use Rattle.hyd_witness_texts.specs.FirstFaults.{IsFirstFault}
use Rattle.hyd_witness_texts.proofs.FirstFaultLemmas.{feeds-append}
use Rattle.hyd_cert.specs.Lines.{Header, header_words}
use Rattle.hyd_cert.specs.declared.answers_of_reader.Stand.TheVariants as stand
use Rattle.hyd_cert.proofs.TextsAtFault.{HasRest, has_rest}
use Rattle.hyd_open_certificates.specs.OpenLines.{IsOpenHeaderLine}
use Rattle.hyd_open_certificates.specs.OpenTexts.{IsOpenCertificate, IsAnyOpenCertificate}
use Rattle.hyd_open_certificates.specs.OpenFaults.{IsOpenFault, HasOtherOpenHeader}
use Rattle.hyd_open_certificates.proofs.OpenLineLemmas.{open_header_is_line}
use Rattle.hyd_open_certificates.proofs.OpenRests.{header_same, header_of_certificate, certificate_parts, header_push}
use Rattle.hyd_open_certificates.proofs.OpenRests.{rest_ends}

-- ---- a text has a line feed or none

record HasLine (text : List ℕ) : Type 0 where
  line : List ℕ
  rest : List ℕ
  free : HasNo 10 line
  is : text ≡ line ++ (10 ∷ rest)

no_feed : (c : ℕ) → (c == 10) ≡ false → c ≢ 10
no_feed c other same = let one : (10 == 10) ≡ false = ap (λ d. d == 10) (sym same) ∙ other in absurd (cc)

feed_by_test : (b : Bool) (c : ℕ) (text : List ℕ) → (c == 10) ≡ b → HasNo 10 text ⊎ HasLine text
    → HasNo 10 (c ∷ text) ⊎ HasLine (c ∷ text)
feed_by_test true c text e more = inr (record {
  line = [];
  rest = text;
  free = tt;
  is = ap (λ d. d ∷ text) (eqb-true c 10 e);
})
feed_by_test false c text e (inl free) = inl (no_feed c e, free)
feed_by_test false c text e (inr more) = inr (record {
  line = c ∷ more.line;
  rest = more.rest;
  free = (no_feed c e, more.free);
  is = ap (λ t. c ∷ t) more.is;
})

first_feed : (text : List ℕ) → HasNo 10 text ⊎ HasLine text
first_feed [] = inl tt
first_feed (c ∷ text) = feed_by_test (c == 10) c text refl (first_feed text)

free_feeds : (text : List ℕ) → HasNo 10 text → line_feeds text ≡ 0
free_feeds [] free = refl
free_feeds (c ∷ text) free = none (c == 10) c (line_feeds text) refl free.0 (free_feeds text free.1)
  where
    none : (b : Bool) (c feeds : ℕ) → (c == 10) ≡ b → c ≢ 10 → feeds ≡ 0 → (if c == 10 then 1 else 0) + feeds ≡ 0
    none true c feeds e apart rest = absurd (apart (eqb-true c 10 e))
    none false c feeds e apart rest = ap (λ (b : Bool). (if b then 1 else 0) + feeds) e ∙ omega (arith, rest)

-- ---- of two fronts of a text one begins with the other

record Starts (a r b s : List ℕ) : Type 0 where
  between : List ℕ
  whole : b ≡ a ++ between
  left : r ≡ between ++ s

one_starts_other : (a r b s : List ℕ) → a ++ r ≡ b ++ s → Starts a r b s ⊎ Starts b s a r
one_starts_other [] r b s e = inl (record { between = b; whole = refl; left = e })
one_starts_other (x ∷ a) r [] s e = inr (record { between = x ∷ a; whole = refl; left = sym e })
one_starts_other (x ∷ a) r (y ∷ b) s e = longer x y a r b s (cc) (one_starts_other a r b s (cc))
  where
    longer : (x y : ℕ) (a r b s : List ℕ) → x ≡ y → Starts a r b s ⊎ Starts b s a r
        → Starts (x ∷ a) r (y ∷ b) s ⊎ Starts (y ∷ b) s (x ∷ a) r
    longer x y a r b s same (inl k) = inl (record {
      between = k.between;
      whole = ap₂ (λ z zs. z ∷ zs) (sym same) k.whole;
      left = k.left;
    })
    longer x y a r b s same (inr k) = inr (record {
      between = k.between;
      whole = ap₂ (λ z zs. z ∷ zs) same k.whole;
      left = k.left;
    })

-- ---- two faults of one text

module _ {GoesOn IsSuch : List ℕ → Type 0} (is_such : (text : List ℕ) → GoesOn text → IsSuch text) where
  -- the line of an earlier fault doesn't stand before a later one
  not_before : (text : List ℕ) (a b : ℕ) (k : IsFirstFault GoesOn IsSuch text a) (m : IsFirstFault GoesOn IsSuch text b)
      → Starts k.front k.rest m.front m.rest → a < b → ⊥
  not_before text a b k m starts less = stands (first_feed starts.between)
    where
      goes_on : GoesOn (k.front ++ (starts.between ++ m.more))
      goes_on = subst GoesOn (ap (λ f. f ++ m.more) starts.whole ∙ append_assoc k.front starts.between m.more) m.goes_on

      feeds : line_feeds m.front ≡ line_feeds k.front + line_feeds starts.between
      feeds = ap line_feeds starts.whole ∙ feeds-append k.front starts.between

      stands : HasNo 10 starts.between ⊎ HasLine starts.between → ⊥
      stands (inl free) = let none = free_feeds starts.between free in let x = k.count in let y = m.count in
          let f = feeds in omega (arith, none, x, y, f, less)
      stands (inr l) =
          let text_of : (t : List ℕ) → starts.between ++ t ≡ l.line ++ (10 ∷ (l.rest ++ t)) = λ t. ap (λ w. w ++ t) l.is
          ∙ append_assoc l.line (10 ∷ l.rest) t in
          k.stops (starts.between ++ m.more)
          (subst (HasFirstLine k.rest) (sym (text_of m.more)) (ended l.line (l.rest ++ m.rest) (l.rest ++ m.more) l.free
          (starts.left ∙ text_of m.rest))) (is_such (k.front ++ (starts.between ++ m.more)) goes_on)

  -- nor a front with more line feeds before one with fewer
  fewer : (text : List ℕ) (a b : ℕ) (k : IsFirstFault GoesOn IsSuch text a) (m : IsFirstFault GoesOn IsSuch text b)
      → Starts m.front m.rest k.front k.rest → a < b → ⊥
  fewer text a b k m starts less =
      let feeds = ap line_feeds starts.whole ∙ feeds-append m.front starts.between in
      let x = k.count in let y = m.count in omega (arith, feeds, x, y, less)

  not_earlier : (text : List ℕ) (a b : ℕ) → IsFirstFault GoesOn IsSuch text a → IsFirstFault GoesOn IsSuch text b
      → a < b → ⊥
  not_earlier text a b k m less = go (one_starts_other k.front k.rest m.front m.rest (sym k.parts ∙ m.parts))
    where
      go : Starts k.front k.rest m.front m.rest ⊎ Starts m.front m.rest k.front k.rest → ⊥
      go (inl starts) = not_before text a b k m starts less
      go (inr starts) = fewer text a b k m starts less

  one_first_fault : (text : List ℕ) (a b : ℕ) → IsFirstFault GoesOn IsSuch text a → IsFirstFault GoesOn IsSuch text b
      → a ≡ b
  one_first_fault text a b k m = equal_by_order a b (not_earlier text a b k m) (not_earlier text b a m k)

pub one_open_fault : (header : Header) (text : List ℕ) (a b : ℕ) → IsOpenFault header stand.First text a
    → IsOpenFault header stand.First text b → a ≡ b
one_open_fault header text a b k m = one_first_fault (λ t is. (header, is)) text a b k m

-- ---- a text with the header line of other counts has none

pub fault_or_other_header : (header : Header) (text : List ℕ) (number : ℕ) → IsOpenFault header stand.First text number
    → HasOtherOpenHeader header (Some text) → ⊥
fault_or_other_header header text number k is = go k.lines
  where
    h : HasRest (is.begins.line ++ (10 ∷ [])) is.begins.rest text
    h = has_rest (is.begins.line ++ (10 ∷ [])) is.begins.rest text (sym is.begins.begins)

    whole : text ≡ is.begins.line ++ (10 ∷ h.left)
    whole = h.whole ∙ append_assoc is.begins.line (10 ∷ []) h.left

    free : HasNo 10 is.begins.line
    free = (open_header_is_line is.begins.header is.begins.line is.begins.is_header).0

    apart : HasLine k.front → ⊥
    apart l =
        let own = header_of_certificate header (k.front ++ k.more) k.goes_on in
        let one = split-same 10 l.line (header_words header) (l.rest ++ k.more) _ l.free
        (open_header_is_line header (header_words header) own).0
        (sym (append_assoc l.line (10 ∷ l.rest) k.more) ∙ (ap (λ f. f ++ k.more) (sym l.is)
        ∙ (certificate_parts header (k.front ++ k.more) k.goes_on ∙ append_assoc (header_words header) (10 ∷ []) _))) in
        let other = split-same 10 l.line is.begins.line (l.rest ++ k.rest) h.left l.free free
        (sym (append_assoc l.line (10 ∷ l.rest) k.rest) ∙ (ap (λ f. f ++ k.rest) (sym l.is) ∙ (sym k.parts ∙ whole))) in
        is.apart (header_same is.begins.header header is.begins.line (header_words header) is.begins.is_header own
        (sym other.0 ∙ one.0))

    at_first : k.front ≡ [] → ⊥
    at_first none =
        let other = is.begins.header in
        let line_is : header_words other ≡ is.begins.line = sym is.begins.is_header.is in
        let own = subst (λ (l : List ℕ). IsOpenHeaderLine other l) is.begins.is_header.is is.begins.is_header in
        let after = is.begins.line ++ (10 ∷ end_line 0 false) in
        let rest : k.rest ≡ is.begins.line ++ (10 ∷ h.left) = ap (λ f. f ++ k.rest) (sym none)
        ∙ (sym k.parts ∙ whole) in
        let certificate : IsOpenCertificate other after = subst (IsOpenCertificate other)
        (append_assoc (header_words other) (10 ∷ []) (end_line 0 false)
        ∙ ap (λ l. l ++ (10 ∷ end_line 0 false)) line_is)
        (header_push other own (end_line 0 false) (rest_ends other 0 false (omega arith))) in
        k.stops after (ended is.begins.line h.left (end_line 0 false) free rest)
        (subst (λ f. IsAnyOpenCertificate (f ++ after)) (sym none) (other, certificate))

    found : (body : List ℕ) → k.front ≡ body ++ (10 ∷ []) → HasNo 10 k.front ⊎ HasLine k.front → ⊥
    found body e (inl alone) = has_none 10 body [] (subst (HasNo 10) e alone)
    found body e (inr l) = apart l

    go : IsLines k.front → ⊥
    go (inl none) = at_first none
    go (inr body) = found body.0 body.1 (first_feed k.front)
