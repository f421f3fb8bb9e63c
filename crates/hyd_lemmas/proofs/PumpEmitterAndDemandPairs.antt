-- The pair of a pump, an emitter or a pressure-driven demand encloses the square of a flow over the head that drives
-- it.
use Rattle.std.proofs.Common.{◌≡◌, ℕ, zero, suc, ◌+◌, ◌*◌, ◌^◌, ◌<◌, ◌≤◌, ℤ, pos, negsuc, ◌+ℤ◌, ◌-ℤ◌, unsigned_abs}
use Rattle.std.proofs.Common.{Bool, true, false, refl, sym, ap, subst, ◌∙◌, arith, mul-pos}
use Rattle.std.proofs.Math.Nat.{mul-le-mul_right, le_of_mul-le-mul_right}
use Rattle.std.proofs.lemmas.Nat.{pow_pos, pow-add}
use Rattle.std.proofs.lemmas.Int.{ints}
use borrow.Author.Differences.{up, down}
use Rattle.hyd_num.specs.declared.binary.Scaled.{Scaled}
use Rattle.hyd_num.specs.declared.pairs.Pair.{Pair}
use Rattle.hyd_num.specs.declared.decimals.Decimal.{Decimal}
use Rattle.hyd_num.specs.declared.flow_units.FlowUnit.{FlowUnit}
use Rattle.hyd_num.specs.Fraction.{Fraction, fraction, times, over, power}
use Rattle.hyd_num.specs.FileQuantity.{billionths, is_us_unit, head_ticks, flow_fraction, pressure_fraction}
use Rattle.hyd_num.specs.BinaryNumbers.{numerator, denominator, IsDown}
use Rattle.hyd_num.specs.Pairs.{Encloses, IsRatio}
use Rattle.hyd_num.specs.CapacityPairs.{IsSquareOver, IsPumpPair, IsEmitterPair, IsPressurePair}
use Rattle.hyd_spec.specs.Loss.{SquareLossAtMost, SquareLossAtLeast}
use Rattle.hyd_spec.specs.Law.{pump_resistance, emitter_resistance, pressure_resistance}
use Rattle.hyd_num.proofs.EndsInOrder.{denominator_positive, numerator_positive}
use Rattle.hyd_lemmas.proofs.PairOperations.{ratio-encloses, product-encloses, quotient-encloses}
use Rattle.hyd_lemmas.proofs.Losses.{square_is}

square_below : (a b w v c d s q y : ℕ) → 0 < d → c * (b * b * w) ≤ a * a * v * d → q * q * d ≤ c * (s * y)
    → (w * b ^ 2) * (q * q) ≤ (v * a ^ 2) * (s * y)
square_below a b w v c d s q y above end flow =
    let p : q * q * d * (b * b * w) ≤ c * (s * y) * (b * b * w) = mul-le-mul_right (b * b * w) flow in
    let e : c * (b * b * w) * (s * y) ≤ a * a * v * d * (s * y) = mul-le-mul_right (s * y) end in
    let all : (w * (b * b)) * (q * q) * d ≤ (v * (a * a)) * (s * y) * d = omega (arith, p, e) in
    rw (square_is b, square_is a) (le_of_mul-le-mul_right all above)

square_above : (a b w v c d s q y : ℕ) → 0 < d → a * a * v * d ≤ c * (b * b * w) → c * (s * y) ≤ q * q * d
    → (v * a ^ 2) * (s * y) ≤ (w * b ^ 2) * (q * q)
square_above a b w v c d s q y above end flow =
    let p : c * (s * y) * (b * b * w) ≤ q * q * d * (b * b * w) = mul-le-mul_right (b * b * w) flow in
    let e : a * a * v * d * (s * y) ≤ c * (b * b * w) * (s * y) = mul-le-mul_right (s * y) end in
    let all : (v * (a * a)) * (s * y) * d ≤ (w * (b * b)) * (q * q) * d = omega (arith, p, e) in
    rw (square_is b, square_is a) (le_of_mul-le-mul_right all above)

square-encloses : (flow head r : Pair) (q w : Fraction) → IsSquareOver flow head r → Encloses flow q → Encloses head w
    → Encloses r (over (times q q) w)
square-encloses flow head r q w made eq ew =
    quotient-encloses made.square head r (times q q) w made.capacity_is
    (product-encloses flow flow made.square q q made.square_is eq eq) ew

square-at_most : (q w : Fraction) (r : Pair) (S f y : ℕ) → Encloses r (over (times q q) w)
    → (f * f) * denominator r.lo ≤ numerator r.lo * (S * y) → SquareLossAtMost (over w (power q 2)) S f y
square-at_most q w r S f y e flow =
    square_below q.num q.den w.num w.den (numerator r.lo) (denominator r.lo) S f y (denominator_positive r.lo)
    e.low.crossed flow

square-at_least : (q w : Fraction) (r : Pair) (S f y : ℕ) → Encloses r (over (times q q) w)
    → numerator r.hi * (S * y) ≤ (f * f) * denominator r.hi → SquareLossAtLeast (over w (power q 2)) S f y
square-at_least q w r S f y e flow =
    square_above q.num q.den w.num w.den (numerator r.hi) (denominator r.hi) S f y (denominator_positive r.hi)
    e.high.crossed flow

-- the double of a number, which is above it
twice : Scaled → Scaled
twice s = record { mant = s.mant; exp = s.exp +ℤ pos 1; normal = s.normal; short = s.short }

not_twice : (m u d v e : ℕ) → 0 < m * u * e → v * d ≡ 2 * (u * e) → (m * v) * d ≤ (m * u) * e → ⊥
not_twice m u d v e above double h =
    let l : m * (v * d) ≡ m * (2 * (u * e)) = ap (λ x. m * x) double in
    omega (arith, l, h, above)

above_itself : (s : Scaled) → numerator (twice s) * denominator s ≤ numerator s * denominator (twice s) → ⊥
unfolding twice
above_itself s h =
    not_twice s.mant (2 ^ up s.exp) (2 ^ down s.exp) (2 ^ up (s.exp +ℤ pos 1)) (2 ^ down (s.exp +ℤ pos 1))
    (mul-pos (numerator_positive s) (pow_pos (down (s.exp +ℤ pos 1))))
    (sym (pow-add 2 (up (s.exp +ℤ pos 1)) (down s.exp))
    ∙ ap (λ i. 2 ^ i) (exponents s.exp)
    ∙ pow-add 2 1 (up s.exp + down (s.exp +ℤ pos 1))
    ∙ ap (λ x. 2 * x) (pow-add 2 (up s.exp) (down (s.exp +ℤ pos 1))))
    h
  where
    exponents : (z : ℤ) → up (z +ℤ pos 1) + down z ≡ 1 + (up z + down (z +ℤ pos 1))
    exponents z = omega (arith, ints)

no_factor : (n q : ℕ) → 0 < n → n * q ≤ 0 → q ≡ 0
no_factor n zero above h = refl
no_factor n (suc q) above h = absurd (omega arith)

-- a number that has a greatest number at most it is above 0
pub down-above : (p q : ℕ) (s : Scaled) → IsDown p q s → 0 < p
down-above zero q s made = absurd (above_itself s (made.greatest (twice s)
    (omega (
      arith,
      ap (λ x. numerator (twice s) * x) (no_factor (numerator s) q (numerator_positive s)
          (omega (arith, made.at_most))),
    ))))
down-above (suc p) q s made = omega arith

pub ratio-above : (p q : ℕ) (r : Pair) → IsRatio p q r → 0 < p
ratio-above p q r made = down-above p q r.lo made.low

same_size : (z : ℤ) → 0 < up z → up z ≡ unsigned_abs z
same_size (pos n) above = refl
same_size (negsuc n) above = absurd (omega arith)

drop_size : (us : Bool) (drop : ℤ) (thirds : ℕ) (r : Pair) → IsRatio (up (head_ticks us drop)) thirds r
    → up (head_ticks us drop) ≡ unsigned_abs (head_ticks us drop)
drop_size us drop thirds r made = same_size (head_ticks us drop) (ratio-above _ thirds r made)

pump-encloses : (flow drop : Decimal) (thirds : ℕ) (unit : FlowUnit) (r : Pair) → IsPumpPair flow drop thirds unit r
    → Encloses r (over (times (flow_fraction unit (billionths flow)) (flow_fraction unit (billionths flow)))
    (fraction (unsigned_abs (head_ticks (is_us_unit unit) drop.nano)) thirds))
pump-encloses flow drop thirds unit r made =
    square-encloses made.flows made.head r _ _ made.capacity_is
    (ratio-encloses _ _ made.flows made.flows_is)
    (subst (λ (x : ℕ). Encloses made.head (fraction x thirds)) (drop_size (is_us_unit unit) drop.nano thirds made.head
    made.head_is)
    (ratio-encloses _ thirds made.head made.head_is))

pub pump-at_most : (flow drop : Decimal) (thirds : ℕ) (unit : FlowUnit) (r : Pair) (S q y : ℕ)
    → IsPumpPair flow drop thirds unit r
    → (q * q) * denominator r.lo ≤ numerator r.lo * (S * y) → SquareLossAtMost (pump_resistance flow drop thirds unit)
    S q y
pump-at_most flow drop thirds unit r S q y made h = square-at_most _ _ r S q y
    (pump-encloses flow drop thirds unit r made) h

pub pump-at_least : (flow drop : Decimal) (thirds : ℕ) (unit : FlowUnit) (r : Pair) (S q y : ℕ)
    → IsPumpPair flow drop thirds unit r
    → numerator r.hi * (S * y) ≤ (q * q) * denominator r.hi → SquareLossAtLeast
    (pump_resistance flow drop thirds unit) S q y
pump-at_least flow drop thirds unit r S q y made h = square-at_least _ _ r S q y
    (pump-encloses flow drop thirds unit r made) h

emitter-encloses : (coefficient : Decimal) (unit : FlowUnit) (r : Pair) → IsEmitterPair coefficient unit r
    → Encloses r (over (times (flow_fraction unit (billionths coefficient))
    (flow_fraction unit (billionths coefficient))) (pressure_fraction (is_us_unit unit) (10 ^ 9)))
emitter-encloses coefficient unit r made =
    square-encloses made.flows made.head r _ _ made.capacity_is (ratio-encloses _ _ made.flows made.flows_is)
    (ratio-encloses _ _ made.head made.head_is)

pub emitter-at_most : (coefficient : Decimal) (unit : FlowUnit) (r : Pair) (S q y : ℕ)
    → IsEmitterPair coefficient unit r
    → (q * q) * denominator r.lo ≤ numerator r.lo * (S * y) → SquareLossAtMost (emitter_resistance coefficient unit) S
    q y
emitter-at_most coefficient unit r S q y made h = square-at_most _ _ r S q y
    (emitter-encloses coefficient unit r made) h

pub emitter-at_least : (coefficient : Decimal) (unit : FlowUnit) (r : Pair) (S q y : ℕ)
    → IsEmitterPair coefficient unit r
    → numerator r.hi * (S * y) ≤ (q * q) * denominator r.hi → SquareLossAtLeast (emitter_resistance coefficient unit)
    S q y
emitter-at_least coefficient unit r S q y made h = square-at_least _ _ r S q y
    (emitter-encloses coefficient unit r made) h

pressure_size : (us : Bool) (z : ℤ) (r : Pair) → IsRatio (pressure_fraction us (up z)).num
    (pressure_fraction us (up z)).den r → up z ≡ unsigned_abs z
pressure_size true z r made = same_size z (omega (arith, ratio-above _ _ r made))
pressure_size false z r made = same_size z (omega (arith, ratio-above _ _ r made))

pressure-encloses : (demand : ℤ) (minimum required : Decimal) (us : Bool) (r : Pair)
    → IsPressurePair demand minimum required us r
    → Encloses r (over (times (fraction (unsigned_abs demand) 1) (fraction (unsigned_abs demand) 1))
    (pressure_fraction us (unsigned_abs (required.nano -ℤ minimum.nano))))
pressure-encloses demand minimum required us r made =
    square-encloses made.flows made.head r _ _ made.capacity_is
    (subst (λ (x : ℕ). Encloses made.flows (fraction x 1)) (same_size demand (ratio-above _ 1 made.flows made.flows_is))
    (ratio-encloses _ 1 made.flows made.flows_is))
    (subst (λ (x : ℕ). Encloses made.head (pressure_fraction us x)) (pressure_size us (required.nano -ℤ minimum.nano)
    made.head made.head_is)
    (ratio-encloses _ _ made.head made.head_is))

pub pressure-at_most : (demand : ℤ) (minimum required : Decimal) (us : Bool) (r : Pair) (S q y : ℕ)
    → IsPressurePair demand minimum required us r
    → (q * q) * denominator r.lo ≤ numerator r.lo * (S * y) → SquareLossAtMost
    (pressure_resistance demand minimum required us) S q y
pressure-at_most demand minimum required us r S q y made h = square-at_most (fraction (unsigned_abs demand) 1) _ r S q
    y (pressure-encloses demand minimum required us r made) h

pub pressure-at_least : (demand : ℤ) (minimum required : Decimal) (us : Bool) (r : Pair) (S q y : ℕ)
    → IsPressurePair demand minimum required us r
    → numerator r.hi * (S * y) ≤ (q * q) * denominator r.hi → SquareLossAtLeast
    (pressure_resistance demand minimum required us) S q y
pressure-at_least demand minimum required us r S q y made h = square-at_least (fraction (unsigned_abs demand) 1) _ r S
    q y (pressure-encloses demand minimum required us r made) h
