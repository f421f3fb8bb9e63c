-- How a value compares with a fraction, by what its multiple is rounded to.
use Rattle.std.proofs.Common.{◌≡◌, ℤ, pos, ◌*ℤ◌, ◌≤ℤ◌, ◌<ℤ◌, Bool, true, ◌&&◌, sym, ap, ◌∙◌, arith}
use Rattle.std.proofs.lemmas.Int.{ints, by_lt_z}
use Rattle.std.proofs.Math.IntN.{*ℤ_comm}
use lib.Signed.{lt_z, le_z}
use Rattle.hyd_num.specs.Rational.{Rational, is_at_most}
use Rattle.hyd_num.specs.QuotientsAndRoots.{IsFloor, IsCeiling}
use Rattle.hyd_num.proofs.Integers.{times_rises}
use Rattle.hyd_spec.specs.ProgramTypes.{Less, NotMore, More, NotLess, Equal}
use Rattle.hyd_spec.specs.Rules.{compares}

-- ---- tests that say the same

same_less : (a b c d : ℤ) → (a <ℤ b → c <ℤ d) → (b ≤ℤ a → d ≤ℤ c) → lt_z a b ≡ lt_z c d
same_less a b c d f g = by_lt_z a b
    (λ lt. let l = f lt in grind (arith, ints, lt, l))
    (λ ge. let l = g ge in grind (arith, ints, ge, l))

same_most : (a b c d : ℤ) → (a ≤ℤ b → c ≤ℤ d) → (b <ℤ a → d <ℤ c) → le_z a b ≡ le_z c d
same_most a b c d f g = by_lt_z b a
    (λ lt. let l = g lt in grind (arith, ints, lt, l))
    (λ ge. let l = f ge in grind (arith, ints, ge, l))

-- ---- by what the multiple is rounded to

module _ (x amount : Rational) (whole : ℤ) (is : amount.num ≡ whole) where
  times : (k : ℤ) → k ≤ℤ whole → (k *ℤ pos x.den) ≤ℤ (amount.num *ℤ pos x.den)
  times k h =
      let l = times_rises x.den k amount.num (omega (arith, ints, h, is)) in
      omega (arith, ints, l, *ℤ_comm k (pos x.den), *ℤ_comm amount.num (pos x.den))

  times_above : (k : ℤ) → whole ≤ℤ k → (amount.num *ℤ pos x.den) ≤ℤ (k *ℤ pos x.den)
  times_above k h =
      let l = times_rises x.den amount.num k (omega (arith, ints, h, is)) in
      omega (arith, ints, l, *ℤ_comm k (pos x.den), *ℤ_comm amount.num (pos x.den))

  turned : pos amount.den *ℤ x.num ≡ x.num *ℤ pos amount.den
  turned = *ℤ_comm (pos amount.den) x.num

  -- the amount is at most the value where it is at most the floor
  up_to_floor : (low : ℤ) → IsFloor (pos amount.den *ℤ x.num) (pos x.den) low → whole ≤ℤ low
      → (amount.num *ℤ pos x.den) ≤ℤ (x.num *ℤ pos amount.den)
  up_to_floor low f h = let l = f.at_most in omega (arith, ints, l, times_above low h, turned)

  beyond_floor : (low : ℤ) → IsFloor (pos amount.den *ℤ x.num) (pos x.den) low → low <ℤ whole
      → (x.num *ℤ pos amount.den) <ℤ (amount.num *ℤ pos x.den)
  beyond_floor low f h = by_lt_z (x.num *ℤ pos amount.den) (amount.num *ℤ pos x.den) (λ lt. lt)
      (λ ge. absurd (let l = f.greatest amount.num (omega (arith, ints, ge, turned)) in omega (arith, ints, l, h, is)))

  -- the value is at most the amount where its ceiling is
  from_ceiling : (high : ℤ) → IsCeiling (pos amount.den *ℤ x.num) (pos x.den) high → high ≤ℤ whole
      → (x.num *ℤ pos amount.den) ≤ℤ (amount.num *ℤ pos x.den)
  from_ceiling high f h = let l = f.at_least in omega (arith, ints, l, times high h, turned)

  below_ceiling : (high : ℤ) → IsCeiling (pos amount.den *ℤ x.num) (pos x.den) high → whole <ℤ high
      → (amount.num *ℤ pos x.den) <ℤ (x.num *ℤ pos amount.den)
  below_ceiling high f h = by_lt_z (amount.num *ℤ pos x.den) (x.num *ℤ pos amount.den) (λ lt. lt)
      (λ ge. absurd (let l = f.least amount.num (omega (arith, ints, ge, turned)) in omega (arith, ints, l, h, is)))

  pub less_is : (low : ℤ) → IsFloor (pos amount.den *ℤ x.num) (pos x.den) low
      → lt_z low whole ≡ compares Less x amount
  less_is low f = same_less low whole (x.num *ℤ pos amount.den) (amount.num *ℤ pos x.den) (beyond_floor low f)
      (up_to_floor low f)

  pub at_least_is : (low : ℤ) → IsFloor (pos amount.den *ℤ x.num) (pos x.den) low
      → le_z whole low ≡ compares NotLess x amount
  at_least_is low f = same_most whole low (amount.num *ℤ pos x.den) (x.num *ℤ pos amount.den) (up_to_floor low f)
      (beyond_floor low f)

  pub more_is : (high : ℤ) → IsCeiling (pos amount.den *ℤ x.num) (pos x.den) high
      → lt_z whole high ≡ compares More x amount
  more_is high f = same_less whole high (amount.num *ℤ pos x.den) (x.num *ℤ pos amount.den) (below_ceiling high f)
      (from_ceiling high f)

  pub at_most_is : (high : ℤ) → IsCeiling (pos amount.den *ℤ x.num) (pos x.den) high
      → le_z high whole ≡ compares NotMore x amount
  at_most_is high f = same_most high whole (x.num *ℤ pos amount.den) (amount.num *ℤ pos x.den) (from_ceiling high f)
      (below_ceiling high f)

  pub equal_is : (low high : ℤ) → IsFloor (pos amount.den *ℤ x.num) (pos x.den) low
      → IsCeiling (pos amount.den *ℤ x.num) (pos x.den) high → high ≤ℤ whole
      → le_z whole low ≡ compares Equal x amount
  equal_is low high f g h =
      let yes : le_z high whole ≡ true = grind (arith, ints, h) in
      at_least_is low f
      ∙ sym (ap (λ (b : Bool). b && is_at_most amount x) (sym (at_most_is high g) ∙ yes))
