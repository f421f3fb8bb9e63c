-- Numbers of a file for which a capacity stands are never refused.
use Rattle.std.proofs.Common.{ℕ, ◌*◌, ◌^◌, ◌<◌, ◌≤◌, arith, inl, inr}
use Rattle.std.proofs.Math.Nat.{mul-le-mul_right, mul-lt-mul_of_pos_right}
use Rattle.hyd_num.specs.declared.pairs.Pair.{Pair}
use Rattle.hyd_num.specs.Fraction.{AtMost}
use Rattle.hyd_num.specs.BinaryNumbers.{numerator, denominator, as_fraction}
use Rattle.hyd_num.specs.CapacityPairs.{StandsFor}
use Rattle.hyd_spec.specs.ProgramTypes.{Origin}
use Rattle.hyd_num.specs.CapacityRange.{IsRefused}
use Rattle.hyd_num.proofs.EndsInOrder.{denominator_positive}
use Rattle.hyd_lemmas.proofs.OnePair.{StandsFor-below}

too_great : (n d m e : ℕ) → 0 < e → n * e ≤ m * d → 2 ^ 66 * d ≤ n → 0 < d → m < 2 ^ 66 * e → ⊥
too_great n d m e some le great above less =
    let a : 2 ^ 66 * d * e ≤ n * e = mul-le-mul_right e great in
    let b : m * d < 2 ^ 66 * e * d = mul-lt-mul_of_pos_right less above in
    omega (arith, a, b, le)

too_small : (n d m e : ℕ) → 0 < d → m * d ≤ n * e → n * 2 ^ 61 < d → 0 < e → e ≤ m * 2 ^ 61 → ⊥
too_small n d m e some le small above least =
    let a : n * 2 ^ 61 * e < d * e = mul-lt-mul_of_pos_right small above in
    let b : e * d ≤ m * 2 ^ 61 * d = mul-le-mul_right d least in
    omega (arith, a, b, le)

-- the numbers of a capacity are never refused
pub not_refused : (origin : Origin) (r : Pair) → StandsFor origin r → denominator r.lo ≤ numerator r.lo * 2 ^ 61
    → numerator r.hi < 2 ^ 66 * denominator r.hi
    → IsRefused origin → ⊥
not_refused origin r made least greatest refused =
    let s = refused.pair in
    elim refused.outside [
      | inl great ↦ (let le : AtMost (as_fraction s.hi) (as_fraction r.hi) =
          (StandsFor-below origin s r refused.made made).high in
          too_great (numerator s.hi) (denominator s.hi) (numerator r.hi) (denominator r.hi) (denominator_positive r.hi)
          le.crossed great (denominator_positive s.hi) greatest)
      | inr small ↦ (let le : AtMost (as_fraction r.lo) (as_fraction s.lo) =
          (StandsFor-below origin r s made refused.made).low in
          too_small (numerator s.lo) (denominator s.lo) (numerator r.lo) (denominator r.lo) (denominator_positive s.lo)
          le.crossed small (denominator_positive r.lo) least)
    ]
