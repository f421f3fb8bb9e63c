-- A text is at fault in one line, and a witness is in none.
use Rattle.std.proofs.Common.{◌≡◌, ◌≢◌, ℕ, ◌+◌, ◌<◌, ◌==◌, Bool, true, false, if◌then◌else◌, ◌⊎◌, List, [], ◌∷◌, ◌++◌}
use Rattle.std.proofs.Common.{refl, sym, ap, ap₂, subst, ◌∙◌, append_assoc, inl, inr, arith}
use Rattle.std.proofs.lemmas.Bool.{eqb-true}
use Rattle.hyd_spec_certificates.specs.CertificateText.{line_feeds}
use Rattle.hyd_spec_witnesses.specs.WitnessText.{Counts}
use Rattle.hyd_spec_witnesses.specs.FaultyLine.{IsWitness, IsOneLine, HasFirstLine, ended, unended, IsFaultyLine}
use Rattle.hyd_lemmas.proofs.BooleanTests.{equal_by_order}

-- ---- the first line of a text

record HasLine (text : List ℕ) : Type 0 where
  line : List ℕ
  rest : List ℕ
  free : IsOneLine line
  is : text ≡ line ++ (10 ∷ rest)

no-feed : (c : ℕ) → (c == 10) ≡ false → c ≢ 10
no-feed c other same = let one : (10 == 10) ≡ false = ap (λ d. d == 10) (sym same) ∙ other in absurd (cc)

feed-by-test : (b : Bool) (c : ℕ) (text : List ℕ) → (c == 10) ≡ b → IsOneLine text ⊎ HasLine text
    → IsOneLine (c ∷ text) ⊎ HasLine (c ∷ text)
feed-by-test true c text e more = inr (record {
  line = [];
  rest = text;
  free = tt;
  is = ap (λ d. d ∷ text) (eqb-true c 10 e);
})
feed-by-test false c text e (inl free) = inl (no-feed c e, free)
feed-by-test false c text e (inr more) = inr (record {
  line = c ∷ more.line;
  rest = more.rest;
  free = (no-feed c e, more.free);
  is = ap (λ t. c ∷ t) more.is;
})

-- a text has a line feed or none
first-feed : (text : List ℕ) → IsOneLine text ⊎ HasLine text
first-feed [] = inl tt
first-feed (c ∷ text) = feed-by-test (c == 10) c text refl (first-feed text)

own-line : (text : List ℕ) → IsOneLine text ⊎ HasLine text → HasFirstLine text text
own-line text (inl free) = unended free
own-line text (inr k) = subst (HasFirstLine text) (sym k.is) (ended k.line k.rest k.rest k.free k.is)

-- ---- no line of a witness

pub faulty-is-no-witness : (counts : Counts) (text : List ℕ) (number : ℕ) → IsFaultyLine counts text number
    → IsWitness counts text → ⊥
faulty-is-no-witness counts text number k witness =
    k.stops k.rest (own-line k.rest (first-feed k.rest)) (subst (IsWitness counts) k.parts witness)

-- ---- one line

feeds-append : (a b : List ℕ) → line_feeds (a ++ b) ≡ line_feeds a + line_feeds b
feeds-append [] b = omega arith
feeds-append (c ∷ a) b = let k = feeds-append a b in omega (arith, k)

free-feeds : (text : List ℕ) → IsOneLine text → line_feeds text ≡ 0
free-feeds [] free = refl
free-feeds (c ∷ text) free = none (c == 10) c (line_feeds text) refl free.0 (free-feeds text free.1)
  where
    none : (b : Bool) (c feeds : ℕ) → (c == 10) ≡ b → c ≢ 10 → feeds ≡ 0 → (if c == 10 then 1 else 0) + feeds ≡ 0
    none true c feeds e apart rest = absurd (apart (eqb-true c 10 e))
    none false c feeds e apart rest = ap (λ (b : Bool). (if b then 1 else 0) + feeds) e ∙ omega (arith, rest)

-- of two fronts of a text one begins with the other
record Begins (a r b s : List ℕ) : Type 0 where
  between : List ℕ
  whole : b ≡ a ++ between
  left : r ≡ between ++ s

one-begins-other : (a r b s : List ℕ) → a ++ r ≡ b ++ s → Begins a r b s ⊎ Begins b s a r
one-begins-other [] r b s e = inl (record { between = b; whole = refl; left = e })
one-begins-other (x ∷ a) r [] s e = inr (record { between = x ∷ a; whole = refl; left = sym e })
one-begins-other (x ∷ a) r (y ∷ b) s e = longer x y a r b s (cc) (one-begins-other a r b s (cc))
  where
    longer : (x y : ℕ) (a r b s : List ℕ) → x ≡ y → Begins a r b s ⊎ Begins b s a r
        → Begins (x ∷ a) r (y ∷ b) s ⊎ Begins (y ∷ b) s (x ∷ a) r
    longer x y a r b s same (inl k) = inl (record {
      between = k.between;
      whole = ap₂ (λ z zs. z ∷ zs) (sym same) k.whole;
      left = k.left;
    })
    longer x y a r b s same (inr k) = inr (record {
      between = k.between;
      whole = ap₂ (λ z zs. z ∷ zs) same k.whole;
      left = k.left;
    })

module _ (counts : Counts) (text : List ℕ) where
  -- the line of an earlier fault doesn't stand before a later one
  not-before : (a b : ℕ) (k : IsFaultyLine counts text a) (m : IsFaultyLine counts text b)
      → Begins k.front k.rest m.front m.rest → a < b → ⊥
  not-before a b k m begins less = stands (first-feed begins.between)
    where
      goes-on : IsWitness counts (k.front ++ (begins.between ++ m.more))
      goes-on = subst (IsWitness counts) (ap (λ f. f ++ m.more) begins.whole ∙ append_assoc k.front begins.between
          m.more) m.goes_on

      feeds : line_feeds m.front ≡ line_feeds k.front + line_feeds begins.between
      feeds = ap line_feeds begins.whole ∙ feeds-append k.front begins.between

      stands : IsOneLine begins.between ⊎ HasLine begins.between → ⊥
      stands (inl free) = let none = free-feeds begins.between free in let x = k.count in let y = m.count in
          let f = feeds in omega (arith, none, x, y, f, less)
      stands (inr l) =
          let text_of : (t : List ℕ) → begins.between ++ t ≡ l.line ++ (10 ∷ (l.rest ++ t)) = λ t.
          ap (λ w. w ++ t) l.is ∙ append_assoc l.line (10 ∷ l.rest) t in
          k.stops (begins.between ++ m.more)
          (subst (HasFirstLine k.rest) (sym (text_of m.more)) (ended l.line (l.rest ++ m.rest) (l.rest ++ m.more)
          l.free (begins.left ∙ text_of m.rest))) goes-on

  -- nor does a front with more line feeds before one with fewer
  fewer : (a b : ℕ) (k : IsFaultyLine counts text a) (m : IsFaultyLine counts text b)
      → Begins m.front m.rest k.front k.rest → a < b → ⊥
  fewer a b k m begins less =
      let feeds = ap line_feeds begins.whole ∙ feeds-append m.front begins.between in
      let x = k.count in let y = m.count in omega (arith, feeds, x, y, less)

  not-earlier : (a b : ℕ) → IsFaultyLine counts text a → IsFaultyLine counts text b → a < b → ⊥
  not-earlier a b k m less = go (one-begins-other k.front k.rest m.front m.rest (sym k.parts ∙ m.parts))
    where
      go : Begins k.front k.rest m.front m.rest ⊎ Begins m.front m.rest k.front k.rest → ⊥
      go (inl begins) = not-before a b k m begins less
      go (inr begins) = fewer a b k m begins less

  pub one-faulty-line : (a b : ℕ) → IsFaultyLine counts text a → IsFaultyLine counts text b → a ≡ b
  one-faulty-line a b k m = equal_by_order a b (not-earlier a b k m) (not-earlier b a m k)
