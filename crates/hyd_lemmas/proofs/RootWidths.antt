-- The width of a power 5.33: the 533rd power's width, and what the search for its 100th root adds, are divided by 100.
use Rattle.std.proofs.Common.{ℕ, ◌*◌, ◌^◌, ◌≤◌, arith, inl, inr, lit<}
use Rattle.std.proofs.Math.Nat.{one-le-pow}
use Rattle.std.proofs.lemmas.Bool.{cases_lt}
use Rattle.hyd_num.specs.declared.binary.Scaled.{Scaled}
use Rattle.hyd_num.specs.declared.pairs.Pair.{Pair}
use Rattle.hyd_num.specs.Fraction.{power, AtMost}
use Rattle.hyd_num.specs.BinaryNumbers.{numerator, denominator, as_fraction}
use Rattle.hyd_num.specs.Pairs.{IsOwnPower, IsRootDown, IsRootUp, IsRoot533}
use Rattle.hyd_num.proofs.EndsInOrder.{denominator_positive}
use Rattle.hyd_num.proofs.Powers.{pow_one}
use Rattle.hyd_lemmas.proofs.PairOperations.{own-encloses}
use Rattle.hyd_lemmas.proofs.Losses.{square_is}
use Rattle.hyd_lemmas.proofs.RoundingErrors.{grain, above_of, below_of}
use Rattle.hyd_lemmas.proofs.PairWidths.{IsNear, above, power-near}
use Rattle.hyd_lemmas.proofs.FractionsFactorsApart.{IsWithin, within-none, within-along, within-power, within-root}
use Rattle.hyd_lemmas.proofs.FractionsFactorsApart.{within-wider}
use Rattle.hyd_lemmas.proofs.FractionsFactorsApart.{ends-within, near-within}
use Rattle.hyd_lemmas.proofs.PairProducts.{own_power}

-- one factor
one_factor : (x y g u : ℕ) → x * g ≤ y * u → x * g ^ 1 ≤ y * u ^ 1
one_factor x y g u le = rw (pow_one g, pow_one u) le

-- the two ends of a number on its own are equal
itself_near : (s : Scaled) (n : ℕ) (r : Pair) (own : IsOwnPower s n r) → IsNear 2 own.base
itself_near s n r own =
    record { within = rw (own.low, own.high, square_is grain, square_is above) (omega arith) }

own-within : (s : Scaled) (r : Pair) → IsOwnPower s 100 r → IsWithin 200 (as_fraction r.hi) (as_fraction r.lo)
own-within s r own = ends-within 200 r (power-near own.base r 100 2 (itself_near s 100 r own) own.made)

-- the bound is hardly above the power of its root's lower end
root-low-within : (bound s : Scaled) → IsRootDown bound s → IsWithin 300 (as_fraction bound) (power (as_fraction s) 100)
root-low-within bound s root =
    let next = above_of s in
    let t = next.number in
    let own = own_power t in
    let r = own.pair in
    let passes : AtMost (as_fraction bound) (as_fraction r.hi) =
    elim (cases_lt (numerator bound * denominator r.hi) (numerator r.hi * denominator bound)) [
      | inl l ↦ record { crossed = omega (arith, l) }
      | inr g ↦ (let below : numerator t * denominator s ≤ numerator s * denominator t = root.greatest t (record {
        result = r;
        made = own.made;
        at_most = g;
      }) in
          absurd (omega (arith, below, next.passes)))
    ] in
    let near : IsWithin 1 (as_fraction t) (as_fraction s) = record { crossed = one_factor _ _ grain above next.near } in
    within-along (as_fraction bound) (as_fraction r.hi) (power (as_fraction s) 100) 0 300 (denominator_positive r.hi)
    (within-none _ _ passes)
    (within-along (as_fraction r.hi) (as_fraction r.lo) (power (as_fraction s) 100) 200 100 (denominator_positive r.lo)
    (own-within t r own.made)
    (within-along (as_fraction r.lo) (power (as_fraction t) 100) (power (as_fraction s) 100) 0 100
    (one-le-pow 100 _ (denominator_positive t))
    (within-none _ _ (own-encloses t 100 r own.made).low)
    (within-power (as_fraction t) (as_fraction s) 1 100 near)))

-- and the power of its root's upper end hardly above the bound
root-high-within : (bound s : Scaled) → IsRootUp bound s → IsWithin 300 (power (as_fraction s) 100) (as_fraction bound)
root-high-within bound s root =
    let next = below_of s in
    let t = next.number in
    let own = own_power t in
    let r = own.pair in
    let passes : AtMost (as_fraction r.lo) (as_fraction bound) =
    elim (cases_lt (numerator r.lo * denominator bound) (numerator bound * denominator r.lo)) [
      | inl l ↦ record { crossed = omega (arith, l) }
      | inr g ↦ (let over : numerator s * denominator t ≤ numerator t * denominator s = root.least t (record {
        result = r;
        made = own.made;
        at_least = g;
      }) in
          absurd (omega (arith, over, next.passes)))
    ] in
    let near : IsWithin 1 (as_fraction s) (as_fraction t) = record { crossed = one_factor _ _ grain above next.near } in
    within-along (power (as_fraction s) 100) (power (as_fraction t) 100) (as_fraction bound) 100 200
    (one-le-pow 100 _ (denominator_positive t))
    (within-power (as_fraction s) (as_fraction t) 1 100 near)
    (within-along (power (as_fraction t) 100) (as_fraction r.hi) (as_fraction bound) 0 200 (denominator_positive r.hi)
    (within-none _ _ (own-encloses t 100 r own.made).high)
    (within-along (as_fraction r.hi) (as_fraction r.lo) (as_fraction bound) 200 0 (denominator_positive r.lo)
    (own-within t r own.made)
    (within-none _ _ passes)))

pub root-near : (d r : Pair) → IsNear 4 d → IsRoot533 d r → IsNear 30 r
root-near d r near root =
    let raised : IsWithin 2132 (as_fraction root.raised.hi) (as_fraction root.raised.lo) = ends-within 2132
    root.raised (power-near d root.raised 533 4 near root.made) in
    let all : IsWithin 2732 (power (as_fraction r.hi) 100) (power (as_fraction r.lo) 100) =
    within-along (power (as_fraction r.hi) 100) (as_fraction root.raised.hi) (power (as_fraction r.lo) 100) 300 2432
    (denominator_positive root.raised.hi)
    (root-high-within root.raised.hi r.hi root.high)
    (within-along (as_fraction root.raised.hi) (as_fraction root.raised.lo) (power (as_fraction r.lo) 100) 2132 300
    (denominator_positive root.raised.lo) raised
    (root-low-within root.raised.lo r.lo root.low)) in
    near-within 28 r (within-root (as_fraction r.hi) (as_fraction r.lo) 28 100 (lit< tt) (within-wider _ _ 2732 68 all))
