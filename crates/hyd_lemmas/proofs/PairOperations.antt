-- What each operation on pairs encloses.
use Rattle.std.proofs.Common.{◌≡◌, ℕ, ◌+◌, ◌*◌, ◌^◌, ◌<◌, sym, ap, subst, ◌∙◌, arith, mul-pos, pow-suc, true, false}
use Rattle.std.proofs.Common.{true≢false}
use Rattle.std.proofs.lemmas.Nat.{pow-add}
use borrow.Author.Differences.{up}
use Rattle.hyd_num.specs.declared.binary.Scaled.{Scaled}
use Rattle.hyd_num.specs.declared.pairs.Pair.{Pair}
use Rattle.hyd_num.specs.Fraction.{Fraction, fraction, times, plus, over, power, AtMost}
use Rattle.hyd_num.specs.BinaryNumbers.{numerator, as_fraction, IsDown, IsUp, denominator}
use Rattle.hyd_num.specs.Pairs.{Encloses, IsRatio, IsProduct, IsQuotient, IsSum, IsPower, once, even, odd, IsOwnPower}
use Rattle.hyd_num.specs.Pairs.{IsRoot533}
use Rattle.hyd_num.proofs.EndsInOrder.{denominator_positive, numerator_positive}
use Rattle.hyd_num.proofs.RoundingLemmas.{IsDown-from_cut}
use Rattle.hyd_num.proofs.Powers.{pow_one}
use Rattle.hyd_lemmas.proofs.Fractions.{AtMost-itself, AtMost-along, times-rises, over-rises, plus-rises}

-- a rounded lower end of something at most x, and a rounded upper end of something at least x
pub down_below : (p q : ℕ) (s : Scaled) (x : Fraction) → 0 < q → IsDown p q s → AtMost (fraction p q) x
    → AtMost (as_fraction s) x
down_below p q s x above d below = AtMost-along (as_fraction s) (fraction p q) x above (record {
  crossed = d.at_most;
}) below

pub up_above : (p q : ℕ) (s : Scaled) (x : Fraction) → 0 < q → IsUp p q s → AtMost x (fraction p q)
    → AtMost x (as_fraction s)
up_above p q s x above u over = AtMost-along x (fraction p q) (as_fraction s) above over (record {
  crossed = u.at_least;
})

pub ratio-encloses : (p q : ℕ) (r : Pair) → IsRatio p q r → Encloses r (fraction p q)
ratio-encloses p q r made = record {
  low = record { crossed = made.low.at_most };
  high = record { crossed = made.high.at_least };
}

pub product-encloses : (x y r : Pair) (a b : Fraction) → IsProduct x y r → Encloses x a → Encloses y b
    → Encloses r (times a b)
product-encloses x y r a b made ex ey = record {
  low = down_below _ _ r.lo (times a b) (mul-pos (denominator_positive x.lo) (denominator_positive y.lo)) made.low
      (times-rises (as_fraction x.lo) a (as_fraction y.lo) b ex.low ey.low);
  high = up_above _ _ r.hi (times a b) (mul-pos (denominator_positive x.hi) (denominator_positive y.hi)) made.high
      (times-rises a (as_fraction x.hi) b (as_fraction y.hi) ex.high ey.high);
}

-- one end at a time, for parts of which one end alone is known
pub quotient-low : (x y r : Pair) (a b : Fraction) → IsQuotient x y r → AtMost (as_fraction x.lo) a
    → AtMost b (as_fraction y.hi)
    → AtMost (as_fraction r.lo) (over a b)
quotient-low x y r a b made p q =
    down_below _ _ r.lo (over a b) (mul-pos (denominator_positive x.lo) (numerator_positive y.hi)) made.low
    (over-rises (as_fraction x.lo) a (as_fraction y.hi) b p q)

pub quotient-high : (x y r : Pair) (a b : Fraction) → IsQuotient x y r → AtMost a (as_fraction x.hi)
    → AtMost (as_fraction y.lo) b
    → AtMost (over a b) (as_fraction r.hi)
quotient-high x y r a b made p q =
    up_above _ _ r.hi (over a b) (mul-pos (denominator_positive x.hi) (numerator_positive y.lo)) made.high
    (over-rises a (as_fraction x.hi) b (as_fraction y.lo) p q)

pub quotient-encloses : (x y r : Pair) (a b : Fraction) → IsQuotient x y r → Encloses x a → Encloses y b
    → Encloses r (over a b)
quotient-encloses x y r a b made ex ey = record {
  low = quotient-low x y r a b made ex.low ey.high;
  high = quotient-high x y r a b made ex.high ey.low;
}

pub sum-low : (x y r : Pair) (a b : Fraction) → IsSum x y r → AtMost (as_fraction x.lo) a → AtMost (as_fraction y.lo) b
    → AtMost (as_fraction r.lo) (plus a b)
sum-low x y r a b made p q =
    down_below _ _ r.lo (plus a b) (mul-pos (denominator_positive x.lo) (denominator_positive y.lo)) made.low
    (plus-rises (as_fraction x.lo) a (as_fraction y.lo) b p q)

pub sum-high : (x y r : Pair) (a b : Fraction) → IsSum x y r → AtMost a (as_fraction x.hi) → AtMost b (as_fraction y.hi)
    → AtMost (plus a b) (as_fraction r.hi)
sum-high x y r a b made p q =
    up_above _ _ r.hi (plus a b) (mul-pos (denominator_positive x.hi) (denominator_positive y.hi)) made.high
    (plus-rises a (as_fraction x.hi) b (as_fraction y.hi) p q)

-- the powers of a fraction, digit by digit
pub square_is : (a n k : ℕ) → k ≡ 2 * n → a ^ n * a ^ n ≡ a ^ k
square_is a n k e = sym (pow-add a n n) ∙ ap (λ i. a ^ i) (omega arith)

pub square_more_is : (a n k : ℕ) → k ≡ 2 * n + 1 → (a ^ n * a ^ n) * a ≡ a ^ k
square_more_is a n k e =
    ap (λ i. i * a) (sym (pow-add a n n)) ∙ sym (pow-suc a (n + n)) ∙ ap (λ i. a ^ i) (omega arith)

pub turned : (r : Pair) (p q s t : ℕ) → p ≡ s → q ≡ t → Encloses r (fraction p q) → Encloses r (fraction s t)
turned r p q s t e f h = subst (λ (x : ℕ). Encloses r (fraction s x)) f (subst (λ (x : ℕ). Encloses r (fraction x q))
    e h)

pub power-encloses : (x r : Pair) (n : ℕ) (a : Fraction) → Encloses x a → IsPower x n r → Encloses r (power a n)
power-encloses x r n a ex once = turned x a.num a.den (a.num ^ 1) (a.den ^ 1) (sym (pow_one a.num))
    (sym (pow_one a.den)) ex
power-encloses x r k a ex (even n k' s r' e made square) =
    let half : Encloses s (power a n) = power-encloses x s n a ex made in
    turned r _ _ (a.num ^ k) (a.den ^ k) (square_is a.num n k e) (square_is a.den n k e)
    (product-encloses s s r (power a n) (power a n) square half half)
power-encloses x r k a ex (odd n k' h s r' e made square more) =
    let half : Encloses h (power a n) = power-encloses x h n a ex made in
    let whole : Encloses s (times (power a n) (power a n)) = product-encloses h h s (power a n) (power a n) square
    half half in
    turned r _ _ (a.num ^ k) (a.den ^ k) (square_more_is a.num n k e) (square_more_is a.den n k e)
    (product-encloses s x r (times (power a n) (power a n)) a more whole ex)

-- a power of a number on its own, rounded on its way
pub own-encloses : (s : Scaled) (n : ℕ) (r : Pair) → IsOwnPower s n r → Encloses r (power (as_fraction s) n)
own-encloses s n r own =
    let itself : Encloses own.base (as_fraction s) = record {
      low = subst (λ (t : Scaled). AtMost (as_fraction own.base.lo) (as_fraction t)) own.low
          (AtMost-itself (as_fraction own.base.lo));
      high = subst (λ (t : Scaled). AtMost (as_fraction t) (as_fraction own.base.hi)) own.high
          (AtMost-itself (as_fraction own.base.hi));
    } in
    power-encloses own.base r n (as_fraction s) itself own.made

pub root-low : (d r : Pair) (a : Fraction) → IsRoot533 d r → Encloses d a
    → AtMost (power (as_fraction r.lo) 100) (power a 533)
root-low d r a root ed =
    let raised : Encloses root.raised (power a 533) = power-encloses d root.raised 533 a ed root.made in
    let below = root.low.below in
    let end : AtMost (as_fraction below.result.hi) (power a 533) =
    AtMost-along (as_fraction below.result.hi) (as_fraction root.raised.lo) (power a 533)
    (denominator_positive root.raised.lo) (record { crossed = below.at_most }) raised.low in
    AtMost-along (power (as_fraction r.lo) 100) (as_fraction below.result.hi) (power a 533)
    (denominator_positive below.result.hi)
    (own-encloses r.lo 100 below.result below.made).high end

pub root-high : (d r : Pair) (a : Fraction) → IsRoot533 d r → Encloses d a
    → AtMost (power a 533) (power (as_fraction r.hi) 100)
root-high d r a root ed =
    let raised : Encloses root.raised (power a 533) = power-encloses d root.raised 533 a ed root.made in
    let above = root.high.above in
    let end : AtMost (power a 533) (as_fraction above.result.lo) =
    AtMost-along (power a 533) (as_fraction root.raised.hi) (as_fraction above.result.lo)
    (denominator_positive root.raised.hi) raised.high (record { crossed = above.at_least }) in
    AtMost-along (power a 533) (as_fraction above.result.lo) (power (as_fraction r.hi) 100)
    (denominator_positive above.result.lo) end
    (own-encloses r.hi 100 above.result above.made).low

-- between two binary numbers that follow each other, below and above
pub IsDown-near : (p q : ℕ) (s : Scaled) → numerator s * q < p * denominator s
    → p * denominator s < (s.mant + 1) * 2 ^ up s.exp * q → IsDown p q s
IsDown-near p q s lost below = IsDown-from_cut p q s false (record {
  at_most = omega (arith, lost);
  below = below;
  whole = λ e. absurd (true≢false (let x : true ≡ false = cc in x));
  lost = λ e. lost;
})
