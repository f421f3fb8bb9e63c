-- The ends of an operation's result are in order.
use Rattle.std.proofs.Common.{◌≡◌, ℕ, ◌+◌, ◌*◌, ◌/◌, ◌%◌, ◌<◌, ◌≤◌, ap, arith, lit<, mul-le-mul, mul-le-mul_right}
use Rattle.std.proofs.Common.{mul-pos, lt_of_lt_of_le, le_of_mul-le-mul_right}
use Rattle.std.proofs.lemmas.Nat.{pow_pos}
use borrow.Author.Differences.{up, down}
use Rattle.hyd_num.specs.declared.binary.Scaled.{Scaled}
use Rattle.hyd_num.specs.declared.pairs.Pair.{Pair}
use Rattle.hyd_num.specs.BinaryNumbers.{numerator, denominator, IsDown, IsUp}

pub numerator_positive : (s : Scaled) → 0 < numerator s
numerator_positive s = let m : 0 < s.mant = lt_of_lt_of_le (lit< tt) s.normal in mul-pos m (pow_pos (up s.exp))

pub denominator_positive : (s : Scaled) → 0 < denominator s
denominator_positive s = pow_pos (down s.exp)

-- rounded down from one number, and up from another that is at least that one
pub ordered : (p q u v : ℕ) (lo hi : Scaled) → 0 < q → 0 < v → p * v ≤ u * q → IsDown p q lo → IsUp u v hi
    → numerator lo * denominator hi ≤ numerator hi * denominator lo
ordered p q u v lo hi q_above v_above le below above =
    let a : numerator lo * q * (v * denominator hi) ≤ p * denominator lo * (v * denominator hi) = mul-le-mul_right
    (v * denominator hi) below.at_most in
    let b : p * v * (denominator lo * denominator hi) ≤ u * q * (denominator lo * denominator hi) = mul-le-mul_right
    (denominator lo * denominator hi) le in
    let c : u * denominator hi * (q * denominator lo) ≤ numerator hi * v * (q * denominator lo) = mul-le-mul_right
    (q * denominator lo) above.at_least in
    let l : numerator lo * denominator hi * (q * v) ≤ numerator hi * denominator lo
    * (q * v) = omega (arith, a, b, c) in
    le_of_mul-le-mul_right l (mul-pos q_above v_above)

module _ (x y : Pair) where
  both : numerator x.lo * denominator x.hi * (numerator y.lo * denominator y.hi) ≤ numerator x.hi * denominator x.lo
      * (numerator y.hi * denominator y.lo)
  both = mul-le-mul x.ordered y.ordered

  pub products_ordered : (lo hi : Scaled) → IsDown (numerator x.lo * numerator y.lo)
      (denominator x.lo * denominator y.lo) lo
      → IsUp (numerator x.hi * numerator y.hi) (denominator x.hi * denominator y.hi) hi
      → numerator lo * denominator hi ≤ numerator hi * denominator lo
  products_ordered lo hi below above = ordered (numerator x.lo * numerator y.lo) (denominator x.lo * denominator y.lo)
      (numerator x.hi * numerator y.hi) (denominator x.hi * denominator y.hi) lo hi
      (mul-pos (denominator_positive x.lo) (denominator_positive y.lo))
      (mul-pos (denominator_positive x.hi) (denominator_positive y.hi)) (omega (arith, both)) below above

  pub quotients_ordered : (lo hi : Scaled) → IsDown (numerator x.lo * denominator y.hi)
      (denominator x.lo * numerator y.hi) lo
      → IsUp (numerator x.hi * denominator y.lo) (denominator x.hi * numerator y.lo) hi
      → numerator lo * denominator hi ≤ numerator hi * denominator lo
  quotients_ordered lo hi below above = ordered (numerator x.lo * denominator y.hi)
      (denominator x.lo * numerator y.hi) (numerator x.hi * denominator y.lo) (denominator x.hi * numerator y.lo) lo hi
      (mul-pos (denominator_positive x.lo) (numerator_positive y.hi))
      (mul-pos (denominator_positive x.hi) (numerator_positive y.lo)) (omega (arith, both)) below above

  pub sums_ordered : (lo hi : Scaled) → IsDown (numerator x.lo * denominator y.lo + numerator y.lo * denominator x.lo)
      (denominator x.lo * denominator y.lo) lo
      → IsUp (numerator x.hi * denominator y.hi + numerator y.hi * denominator x.hi)
      (denominator x.hi * denominator y.hi) hi → numerator lo * denominator hi ≤ numerator hi * denominator lo
  sums_ordered lo hi below above = ordered (numerator x.lo * denominator y.lo + numerator y.lo * denominator x.lo)
      (denominator x.lo * denominator y.lo) (numerator x.hi * denominator y.hi + numerator y.hi * denominator x.hi)
      (denominator x.hi * denominator y.hi) lo hi
      (mul-pos (denominator_positive x.lo) (denominator_positive y.lo))
      (mul-pos (denominator_positive x.hi) (denominator_positive y.hi))
      (omega (
        arith,
        mul-le-mul_right (denominator y.lo * denominator y.hi) x.ordered,
        mul-le-mul_right
            (denominator x.lo * denominator x.hi) y.ordered,
      )) below above

-- twice what half the factor bounds
pub twice_half : (n r h : ℕ) → h ≤ n / 2 * r → h + h ≤ n * r
twice_half n r h le =
    let e : n * r ≡ (2 * (n / 2) + n % 2) * r = ap (λ x. x * r) (omega arith) in
    omega (arith, e)

pub twice_half_more : (n r h : ℕ) → ¬ (n % 2 ≡ 0) → h ≤ n / 2 * r → h + h + r ≤ n * r
twice_half_more n r h odd le =
    let e : n * r ≡ (2 * (n / 2) + 1) * r = ap (λ x. x * r) (omega arith) in
    omega (arith, e)
