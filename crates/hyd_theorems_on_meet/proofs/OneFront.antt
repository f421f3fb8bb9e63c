-- Two lists of periods with which a text begins: one is a front of the other, and the scale is one.
use Rattle.std.proofs.Common.{◌≡◌, ℕ, ◌⊎◌, inl, inr, List, [], ◌∷◌, ◌++◌, map, refl, sym, ap, ap₂}
use Rattle.std.proofs.Common.{◌∙◌, append_assoc, arith}
use Rattle.std.specs.Prelude.{All}
use Rattle.std.proofs.lemmas.List.{append_cancel_right}
use Rattle.std.proofs.lemmas.List.Elements.{All-nil, All-cons, All-head, All-tail}
use Rattle.hyd_spec.specs.Lists.{joined, IsFrontOf}
use Rattle.hyd_spec_witnesses.specs.MetPeriods.{Moment}
use Rattle.hyd_spec_witnesses.specs.WitnessText.{Counts, IsMoment, IsScale, IsWitnessText, moment_line, moment_text}
use Rattle.hyd_spec_witnesses.specs.WitnessText.{witness_end, witness_header, witness_text}
use Rattle.hyd_theorems_on_witnesses.proofs.OneReading.{one-reading}
use Rattle.hyd_witness_texts.specs.Lines.{header_words}
use Rattle.hyd_witness_texts.specs.PartsOfWitness.{lists_text}
use Rattle.hyd_witness_texts.proofs.FirstFaultLemmas.{cut_line}
use Rattle.hyd_witness_texts.proofs.RestOfWitness.{AreSmallCounts, header_alone, lists_block, lists_are, has_values}
use Rattle.hyd_witness_texts.proofs.RestOfWitness.{period_alone, period_words, small_of}

-- a list that ends as another one with the same end is that one
same_front : (a b x y : List ℕ) → x ≡ y → a ++ x ≡ b ++ y → a ≡ b
same_front a b x y same e = append_cancel_right a b y (ap (λ t. a ++ t) (sym same) ∙ e)

module _ (counts : Counts) (small : AreSmallCounts counts) where
  one_scale : IsScale 1
  one_scale = record { power = 0; is_power = refl; at_most = omega arith }

  -- a witness of one period
  alone : (a : Moment) → IsMoment counts a → (text : List ℕ) → text ≡ witness_text 1 counts (a ∷ [])
      → IsWitnessText counts text 1 (a ∷ [])
  alone a is text e = record {
    is_scale = one_scale;
    moments_fit = All-cons (IsMoment counts) a [] is (All-nil (IsMoment counts));
    count_fits = omega arith;
    is_text = e;
  }

  -- a witness of none
  none : (scale : ℕ) → IsScale scale → (text : List ℕ) → text ≡ witness_text scale counts []
      → IsWitnessText counts text scale []
  none scale is text e = record {
    is_scale = is;
    moments_fit = All-nil (IsMoment counts);
    count_fits = omega arith;
    is_text = e;
  }

  -- a period has one text
  one_moment : (a b : Moment) → IsMoment counts a → IsMoment counts b → moment_text a ≡ moment_text b → a ≡ b
  one_moment a b is_a is_b e =
      let whole : witness_text 1 counts (a ∷ []) ≡ witness_text 1 counts (b ∷ [])
      = ap (λ t. witness_header 1 counts ++ ((t ++ []) ++ witness_end 1)) e in
      let both = one-reading counts small.junctions small.links small.tanks (witness_text 1 counts (a ∷ [])) 1 1
      (a ∷ []) (b ∷ []) (alone a is_a _ refl) (alone b is_b _ whole) in
      let first = both.1 in cc

  -- the period with which a text begins is one, and so is what follows it
  moment_same : (a b : Moment) → IsMoment counts a → IsMoment counts b → (t r : List ℕ)
      → moment_text a ++ t ≡ moment_text b ++ r → (a ≡ b) × (t ≡ r)
  moment_same a b is_a is_b t r e =
      let lists = cut_line (period_words a.number a.time a.length) (period_words b.number b.time b.length)
      (lists_text a ++ t) (lists_text b ++ r) (period_alone a.number a.time a.length (small_of counts a is_a))
      (period_alone b.number b.time b.length (small_of counts b is_b))
      (sym (append_assoc (moment_line a) (lists_text a) t) ∙ (e ∙ append_assoc (moment_line b) (lists_text b) r)) in
      let rest = (lists_block counts).cut (lists_text a) (lists_text b) t r
      (lists_are counts a (has_values counts a is_a)) (lists_are counts b (has_values counts b is_b)) lists in
      (one_moment a b is_a is_b (same_front (moment_text a) (moment_text b) t r rest e), rest)

  -- of two lists of periods with which a text begins one is a front of the other
  pub one_front : (xs ys : List Moment) → All (IsMoment counts) xs → All (IsMoment counts) ys → (t r : List ℕ)
      → joined (map moment_text xs) ++ t ≡ joined (map moment_text ys) ++ r → IsFrontOf xs ys ⊎ IsFrontOf ys xs
  one_front [] ys all_x all_y t r e = inl (ys, refl)
  one_front (x ∷ xs) [] all_x all_y t r e = inr (x ∷ xs, refl)
  one_front (x ∷ xs) (y ∷ ys) all_x all_y t r e =
      let first = moment_same x y (All-head (IsMoment counts) x xs all_x) (All-head (IsMoment counts) y ys all_y)
      (joined (map moment_text xs) ++ t) (joined (map moment_text ys) ++ r)
      (sym (append_assoc (moment_text x) (joined (map moment_text xs)) t)
      ∙ (e ∙ append_assoc (moment_text y) (joined (map moment_text ys)) r)) in
      longer first.0 (one_front xs ys (All-tail (IsMoment counts) x xs all_x) (All-tail (IsMoment counts) y ys all_y) t r
      first.1)
    where
      longer : x ≡ y → IsFrontOf xs ys ⊎ IsFrontOf ys xs → IsFrontOf (x ∷ xs) (y ∷ ys) ⊎ IsFrontOf (y ∷ ys) (x ∷ xs)
      longer same (inl is) = inl (is.0, ap₂ (λ z zs. z ∷ zs) same is.1)
      longer same (inr is) = inr (is.0, ap₂ (λ z zs. z ∷ zs) (sym same) is.1)

  -- a text begins with one header line, which has one scale
  pub behind_header : (scale other : ℕ) → IsScale scale → IsScale other → (t r : List ℕ)
      → witness_header scale counts ++ t ≡ witness_header other counts ++ r → (scale ≡ other) × (t ≡ r)
  behind_header scale other is_s is_o t r e =
      let rest = cut_line (header_words scale counts) (header_words other counts) t r
      (header_alone counts small scale is_s) (header_alone counts small other is_o) e in
      let header = same_front (witness_header scale counts) (witness_header other counts) t r rest e in
      let both = one-reading counts small.junctions small.links small.tanks (witness_text scale counts []) scale other []
      [] (none scale is_s _ refl) (none other is_o _ (ap (λ h. h ++ ([] ++ witness_end 0)) header)) in
      (both.0, rest)
