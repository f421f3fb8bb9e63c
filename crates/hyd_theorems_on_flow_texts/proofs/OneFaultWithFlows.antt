-- A text with flows is at fault in one line at most. A certificate is at fault in none, nor is a text whose header line
-- has other counts.
use Rattle.std.proofs.Common.{◌≡◌, ◌≢◌, ℕ, ◌<◌, ◌==◌, Bool, true, false, if◌then◌else◌, ◌⊎◌, inl, inr, List, []}
use Rattle.std.proofs.Common.{◌∷◌, ◌++◌, length, length-append, Some, refl, sym, ap, ap₂, subst, ◌∙◌, append_assoc}
use Rattle.std.proofs.Common.{arith}
use Rattle.std.proofs.lemmas.Bool.{eqb-true}
use Rattle.std.proofs.lemmas.List.Elements.{All-nil}
use Rattle.hyd_spec_certificates.specs.CertificateText.{header_line, end_line, line_feeds}
use Rattle.hyd_spec_flows.specs.FlowTexts.{IsEntry, IsTextWithFlows, with_flows, flows_version}
use Rattle.hyd_lemmas.proofs.BooleanTests.{equal_by_order}
use Rattle.hyd_line_reader.specs.TextsWithoutLine.{HasNo}
use Rattle.hyd_cert.specs.Lines.{Header, header_words}
use Rattle.hyd_cert.specs.FaultyLine.{IsLines, HasFirstLine, ended, unended}
use Rattle.hyd_cert.specs.PlacesWithFlows.{IsFlowsHeaderLine}
use Rattle.hyd_cert.specs.ReaderWithFlows.{HasOtherCounts}
use Rattle.hyd_line_reader.proofs.SplitTexts.{split-same, has_none}
use Rattle.hyd_cert.proofs.TextsAtFault.{has_rest, no_feeds}
use Rattle.hyd_cert.proofs.WholeTextLemmas.{feeds_append}
use Rattle.hyd_theorems_on_flow_texts.specs.FaultyLineWithFlows.{IsCertificateWithFlows, IsSomeCertificate}
use Rattle.hyd_theorems_on_flow_texts.specs.FaultyLineWithFlows.{IsFirstFaultWithFlows}
use Rattle.hyd_theorems_on_flow_texts.proofs.FirstLines.{flows_header, flows_header_of, flows_header_free, same_counts}
use Rattle.hyd_theorems_on_flow_texts.proofs.FirstLines.{header_then}

-- ---- the first line of a text

record HasLine (text : List ℕ) : Type 0 where
  line : List ℕ
  rest : List ℕ
  free : HasNo 10 line
  is : text ≡ line ++ (10 ∷ rest)

not_feed : (c : ℕ) → (c == 10) ≡ false → c ≢ 10
not_feed c other same = let one : (10 == 10) ≡ false = ap (λ d. d == 10) (sym same) ∙ other in absurd (cc)

feed_by_test : (b : Bool) (c : ℕ) (text : List ℕ) → (c == 10) ≡ b → HasNo 10 text ⊎ HasLine text
    → HasNo 10 (c ∷ text) ⊎ HasLine (c ∷ text)
feed_by_test true c text e more = inr (record {
  line = [];
  rest = text;
  free = tt;
  is = ap (λ d. d ∷ text) (eqb-true c 10 e);
})
feed_by_test false c text e (inl free) = inl (not_feed c e, free)
feed_by_test false c text e (inr more) = inr (record {
  line = c ∷ more.line;
  rest = more.rest;
  free = (not_feed c e, more.free);
  is = ap (λ t. c ∷ t) more.is;
})

-- a text has a line feed or none
first_feed : (text : List ℕ) → HasNo 10 text ⊎ HasLine text
first_feed [] = inl tt
first_feed (c ∷ text) = feed_by_test (c == 10) c text refl (first_feed text)

-- where it has some, it has a first line
some_line : (text : List ℕ) → HasNo 10 text ⊎ HasLine text → 0 < line_feeds text → HasLine text
some_line text (inl free) some =
    let one = no_feeds text [] free in
    let whole = feeds_append text (10 ∷ []) in
    absurd (omega (arith, one, whole, some))
some_line text (inr has) some = has

-- it begins with its own first line
begins_itself : (text : List ℕ) → HasNo 10 text ⊎ HasLine text → HasFirstLine text text
begins_itself text (inl free) = unended free
begins_itself text (inr k) = subst (HasFirstLine text) (sym k.is) (ended k.line k.rest k.rest k.free k.is)

-- ---- two fronts of a text

-- the longer front has a line more
record IsLonger (a r b s : List ℕ) : Type 0 where
  between : List ℕ
  has : HasLine between
  front : b ≡ a ++ between
  rest : r ≡ between ++ s

longer : (a r b s : List ℕ) → a ++ r ≡ b ++ s → line_feeds a < line_feeds b → IsLonger a r b s
longer [] r b s e less = record { between = b; has = some_line b (first_feed b) less; front = refl; rest = e }
longer (x ∷ a) r [] s e less = absurd (omega (arith, less))
longer (x ∷ a) r (y ∷ b) s e less =
    let same : x ≡ y = cc in
    let after : a ++ r ≡ b ++ s = cc in
    let here : ℕ → ℕ = λ c. if c == 10 then 1 else 0 in
    let feeds : here x ≡ here y = ap here same in
    let k = longer a r b s after (omega (arith, feeds, less)) in
    record { between = k.between; has = k.has; front = ap₂ (λ c t. c ∷ t) (sym same) k.front; rest = k.rest }

-- ---- one fault

module _ (n k : ℕ) (text : List ℕ) where
  some_certificate : (t : List ℕ) → IsCertificateWithFlows n k t → IsSomeCertificate t
  some_certificate t is = record {
    version = flows_version;
    junctions = n;
    tanks = k;
    rows = _;
    parts = _;
    periods = is.periods;
    finished = is.finished;
    is_text = with_flows is.entries is.is_text;
  }

  -- a certificate isn't at fault
  pub fault_no_certificate : (number : ℕ) → IsFirstFaultWithFlows n k text number → IsSomeCertificate text → ⊥
  fault_no_certificate number f is =
      f.stops f.rest (begins_itself f.rest (first_feed f.rest)) (subst IsSomeCertificate f.parts is)

  pub fault_no_text : (number : ℕ) → IsFirstFaultWithFlows n k text number → IsCertificateWithFlows n k text → ⊥
  fault_no_text number f is = fault_no_certificate number f (some_certificate text is)

  not_earlier : (a b : ℕ) → IsFirstFaultWithFlows n k text a → IsFirstFaultWithFlows n k text b → a < b → ⊥
  not_earlier a b x y less =
      let first = x.count in
      let second = y.count in
      let m = longer x.front x.rest y.front y.rest (sym x.parts ∙ y.parts) (omega (arith, first, second, less)) in
      let line_of : (t : List ℕ) → m.between ++ t ≡ m.has.line ++ (10 ∷ (m.has.rest ++ t)) =
      λ t. ap (λ w. w ++ t) m.has.is ∙ append_assoc m.has.line (10 ∷ m.has.rest) t in
      x.stops (m.between ++ y.more)
      (subst (HasFirstLine x.rest) (sym (line_of y.more)) (ended m.has.line (m.has.rest ++ y.rest)
      (m.has.rest ++ y.more) m.has.free (m.rest ∙ line_of y.rest)))
      (subst IsSomeCertificate (ap (λ f. f ++ y.more) m.front ∙ append_assoc x.front m.between y.more)
      (some_certificate (y.front ++ y.more) y.goes_on))

  pub one_fault : (a b : ℕ) → IsFirstFaultWithFlows n k text a → IsFirstFaultWithFlows n k text b → a ≡ b
  one_fault a b x y = equal_by_order a b (not_earlier a b x y) (not_earlier b a y x)

  -- ---- other counts

  -- the first line of a text is one, and so are its counts
  same_header : (other : Header) (line rest behind : List ℕ)
      → IsFlowsHeaderLine (flows_header n k) (header_words (flows_header n k)) → IsFlowsHeaderLine other line
      → line ++ (10 ∷ rest) ≡ header_line flows_version n k ++ behind → other ≡ flows_header n k
  same_header other line rest behind own is e =
      let words = header_words (flows_header n k) in
      let same = split-same 10 line words rest behind (flows_header_free other line is)
      (flows_header_free (flows_header n k) words own) (e ∙ header_then (flows_header n k) behind) in
      let counts = same_counts other (flows_header n k) line words is own same.0 in
      let known = is.known in
      λ i. record { version = known i; junctions = counts.0 i; tanks = counts.1 i }

  -- a text with the header line of the other counts
  record Other (other : Header) (rest : List ℕ) : Type 0 where
    line : List ℕ
    is_header : IsFlowsHeaderLine other line
    is : text ≡ line ++ (10 ∷ rest)

  other_of : (header : Header) (has : HasOtherCounts header (Some text)) → (rest : List ℕ) × Other has.other rest
  other_of header has =
      let h = has_rest (has.line ++ (10 ∷ [])) has.rest text (sym has.begins) in (
        h.left,
        record {
          line = has.line;
          is_header = has.is_header;
          is = h.whole ∙ append_assoc has.line (10 ∷ []) h.left;
        },
      )

  -- doesn't begin with that of these counts
  pub other_counts : (header : Header) (behind : List ℕ) → header.junctions ≡ n → header.tanks ≡ k
      → IsFlowsHeaderLine (flows_header n k) (header_words (flows_header n k)) → HasOtherCounts header (Some text)
      → text ≡ header_line flows_version n k ++ behind → ⊥
  other_counts header behind junctions tanks own has e =
      let o = other_of header has in
      has.apart (same_header has.other o.1.line o.0 behind own o.1.is_header (sym o.1.is ∙ e)
      ∙ ap₂ (λ m j. flows_header m j) (sym junctions) (sym tanks))

  -- and isn't at fault
  pub fault_or_counts : (header : Header) (number : ℕ) → header.junctions ≡ n → header.tanks ≡ k
      → IsFirstFaultWithFlows n k text number → HasOtherCounts header (Some text) → ⊥
  fault_or_counts header number junctions tanks f has = by_front f.lines
    where
      o : (rest : List ℕ) × Other has.other rest
      o = other_of header has

      end : List ℕ
      end = end_line 0 false

      bare : IsTextWithFlows (o.1.line ++ (10 ∷ end)) has.other.junctions has.other.tanks [] 0 false
      bare =
          let is = o.1.is_header in
          let short = is.short in
          let words = header_words (flows_header has.other.junctions has.other.tanks) in
          let line_is : o.1.line ≡ words =
          is.is ∙ ap (λ v. header_words (record has.other { version = v })) is.known in
          let whole = length-append words (10 ∷ []) in
          let long = ap length line_is in
          record {
            junctions_fit = is.junctions_fit;
            tanks_fit = is.tanks_fit;
            header_fits = omega (arith, whole, long, short);
            entries_fit = All-nil (IsEntry has.other.junctions has.other.tanks);
            periods_fit = omega arith;
            is_text = ap (λ l. l ++ (10 ∷ end)) line_is
                ∙ sym (header_then (flows_header has.other.junctions has.other.tanks) end);
          }

      at_first : f.front ≡ [] → ⊥
      at_first none =
          let rest : f.rest ≡ o.1.line ++ (10 ∷ o.0) = ap (λ t. t ++ f.rest) (sym none) ∙ (sym f.parts ∙ o.1.is) in
          let after = o.1.line ++ (10 ∷ end) in
          f.stops after
          (ended o.1.line o.0 end (flows_header_free has.other o.1.line o.1.is_header) rest)
          (subst (λ (t : List ℕ). IsSomeCertificate (t ++ after)) (sym none) (record {
            version = flows_version;
            junctions = has.other.junctions;
            tanks = has.other.tanks;
            rows = _;
            parts = _;
            periods = 0;
            finished = false;
            is_text = with_flows [] bare;
          }))

      behind_line : HasLine f.front → ⊥
      behind_line l =
          let own = f.goes_on in
          let entries = own.is_text in
          let is_own = flows_header_of (f.front ++ f.more) n k own.entries own.periods own.finished entries in
          let line_of : (t : List ℕ) → f.front ++ t ≡ l.line ++ (10 ∷ (l.rest ++ t)) =
          λ t. ap (λ w. w ++ t) l.is ∙ append_assoc l.line (10 ∷ l.rest) t in
          let line = split-same 10 l.line o.1.line (l.rest ++ f.rest) o.0 l.free
          (flows_header_free has.other o.1.line o.1.is_header)
          (sym (line_of f.rest) ∙ (sym f.parts ∙ o.1.is)) in
          has.apart (same_header has.other o.1.line (l.rest ++ f.more) _ is_own o.1.is_header
          (ap (λ w. w ++ (10 ∷ (l.rest ++ f.more))) (sym line.0) ∙ (sym (line_of f.more) ∙ entries.is_text))
          ∙ ap₂ (λ m j. flows_header m j) (sym junctions) (sym tanks))

      has_line : (body : List ℕ) → f.front ≡ body ++ (10 ∷ []) → HasNo 10 f.front ⊎ HasLine f.front → ⊥
      has_line body e (inl free) = has_none 10 body [] (subst (HasNo 10) e free)
      has_line body e (inr l) = behind_line l

      by_front : IsLines f.front → ⊥
      by_front (inl none) = at_first none
      by_front (inr body) = has_line body.0 body.1 (first_feed f.front)
