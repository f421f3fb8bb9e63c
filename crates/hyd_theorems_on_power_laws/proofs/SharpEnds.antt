-- The ends of a capacity that stands for the numbers of a pipe are as near as is promised.
use Rattle.std.proofs.Common.{◌≡◌, ℕ, zero, suc, ◌+◌, ◌-◌, ◌*◌, ◌^◌, ◌<◌, ◌≤◌, Bool, sym, ap, subst, ◌∙◌, arith}
use Rattle.std.proofs.Common.{mul-pos, pow-suc, lit≤, lit<}
use Rattle.std.specs.Prelude.{Option}
use Rattle.std.specs.Option.{IfSome}
use Rattle.std.proofs.Math.Nat.{mul-le-mul_right, mul-le-mul_left, le_of_mul-le-mul_right, pow-zero}
use Rattle.std.proofs.lemmas.Nat.{mul-le, pow-add}
use Rattle.hyd_num.specs.declared.binary.Scaled.{Scaled}
use Rattle.hyd_num.specs.declared.pairs.Pair.{Pair}
use Rattle.hyd_num.specs.declared.decimals.Decimal.{Decimal}
use Rattle.hyd_num.specs.BinaryNumbers.{numerator, denominator, IsDown, IsUp}
use Rattle.hyd_num.specs.FileQuantity.{billionths}
use Rattle.hyd_num.specs.Pairs.{IsRatio}
use Rattle.hyd_num.specs.CapacityPairs.{IsMinorPair}
use Rattle.hyd_num.proofs.EndsInOrder.{denominator_positive}
use Rattle.hyd_spec_power_laws.specs.declared.power_capacities.PowerCapacity.{PowerCapacity}
use Rattle.hyd_spec_power_laws.specs.PowerCapacities.{IsCarried, IsDragged, IsConstant, IsMinorTicks, IsMinorWith}
use Rattle.hyd_spec_power_laws.specs.PowerCapacities.{IsLessened, IsRaised, IsMade}
use Rattle.hyd_spec_pipe_laws.specs.SharpEnds.{AreNear, IsSharp}
use Rattle.hyd_lemmas.proofs.RoundingErrors.{grain, grain_is, grain_above, down-near, up-near}
use Rattle.hyd_lemmas.proofs.PumpEmitterAndDemandPairs.{ratio-above}
use Rattle.hyd_lemmas.proofs.SharpCapacities.{some_factor}
use Rattle.hyd_lemmas.proofs.PairWidths.{IsNear, above, ratio-near, product-near, quotient-near, power-near}
use Rattle.hyd_lemmas.proofs.PairWidths.{near-sharp}

-- ---- the pairs that a pipe's numbers make, in roundings

-- a pair that a fraction is rounded to
fraction-near : (p q : ℕ) (r : Pair) → IsRatio p q r → IsNear 4 r
fraction-near p q r made =
    let some : 0 < p = ratio-above p q r made in
    ratio-near p q r some (some_factor p q r.hi some made.high) made

carried-near : (diameter c : Decimal) (us : Bool) (r : Pair) → IsCarried diameter c us r → IsNear 34300 r
carried-near diameter c us r m =
    product-near m.flows m.widths r 14816 19484 m.carried_is
    (power-near m.flow m.flows 1852 8
    (product-near m.unit m.coefficient m.flow 4 4 m.flow_is (fraction-near _ _ m.unit m.unit_is)
    (fraction-near _ _ m.coefficient m.coefficient_is)) m.flows_is)
    (power-near m.across m.widths 4871 4 (fraction-near _ _ m.across m.across_is) m.widths_is)

dragged-near : (length : Decimal) (us : Bool) (r : Pair) → IsDragged length us r → IsNear 12000 r
dragged-near length us r m =
    power-near m.ticks r 1000 12
    (product-near m.drag m.foot m.ticks 8 4 m.ticks_is
    (product-near m.factor m.long m.drag 4 4 m.drag_is (fraction-near _ _ m.factor m.factor_is)
    (fraction-near _ _ m.long m.long_is))
    (fraction-near _ _ m.foot m.foot_is)) m.dragged_is

constant-near : (length diameter c : Decimal) (us : Bool) (r : Pair) → IsConstant length diameter c us r
    → IsNear 46300 r
constant-near length diameter c us r m =
    quotient-near m.carried m.dragged r 34300 12000 m.constant_is (carried-near diameter c us m.carried m.carried_is)
    (dragged-near length us m.dragged m.dragged_is)

lost-near : (diameter k : Decimal) (us : Bool) (r : Pair) → IsMinorPair diameter k us r → IsNear 24 r
lost-near diameter k us r m =
    quotient-near m.scaled m.fourth r 8 16 m.minor_is
    (product-near m.factor m.coefficient m.scaled 4 4 m.scaled_is (fraction-near _ _ m.factor m.factor_is)
    (fraction-near _ _ m.coefficient m.coefficient_is))
    (power-near m.across m.fourth 4 4 (fraction-near _ _ m.across m.across_is) m.fourth_is)

minor-near : (diameter k : Decimal) (us : Bool) (r : Pair) → IsMinorTicks diameter k us r → IsNear 36 r
minor-near diameter k us r m =
    let unit : IsNear 4 m.unit = fraction-near _ _ m.unit m.unit_is in
    quotient-near m.ticks m.square r 28 8 m.minor_is
    (product-near m.lost m.foot m.ticks 24 4 m.ticks_is (lost-near diameter k us m.lost m.lost_is)
    (fraction-near _ _ m.foot m.foot_is))
    (product-near m.unit m.unit m.square 4 4 m.square_is unit unit)

-- ---- the room for roundings: its two factors are within 2^14 + 1 roundings

-- n roundings are at least n parts of a grain
many_roundings : (n g : ℕ) → (g + n) * g ^ n ≤ (g + 1) ^ n * g
many_roundings zero g = rw (pow-zero g, pow-zero (g + 1)) (omega arith)
many_roundings (suc n) g =
    let before : (g + n) * g ^ n ≤ (g + 1) ^ n * g = many_roundings n g in
    let a : (g + n) * g ^ n * (g + 1) ≤ (g + 1) ^ n * g * (g + 1) = mul-le-mul_right (g + 1) before in
    let z : 0 ≤ n * g ^ n = omega arith in
    rw (pow-suc g n, pow-suc (g + 1) n) (omega (arith, a, z))

-- the upper factor is below the lower one times as many roundings
room_is : (n g a b : ℕ) → b * g ≤ a * (g + n) → 0 < g → b * g ^ n ≤ a * (g + 1) ^ n
room_is n g a b room some =
    let l : b * g * g ^ n ≤ a * (g + n) * g ^ n = mul-le-mul_right (g ^ n) room in
    let m : a * ((g + n) * g ^ n) ≤ a * ((g + 1) ^ n * g) = mul-le-mul_left a (many_roundings n g) in
    let h : b * g ^ n * g ≤ a * (g + 1) ^ n * g = omega (arith, l, m) in
    le_of_mul-le-mul_right h some

-- h / l is the upper end over the lower one of a pair that encloses a / c and b / c; w roundings more
factors_width : (h l a b c g u x y : ℕ) → 0 < a * c → h * (a * c) * (g * g) ≤ l * (b * c) * (u * u) → b * x ≤ a * y
    → h * (u * u * (x * (g * g * (g * g)))) ≤ l * (g * g * (y * (u * u * (u * u))))
factors_width h l a b c g u x y some rounding room =
    let p : h * (a * c) * (g * g) * x ≤ l * (b * c) * (u * u) * x = mul-le-mul_right x rounding in
    let q : b * x * (l * c * (u * u)) ≤ a * y * (l * c * (u * u)) = mul-le-mul_right (l * c * (u * u)) room in
    let all : h * (g * g) * x * (a * c) ≤ l * (u * u) * y * (a * c) = omega (arith, p, q) in
    let one : h * (g * g) * x ≤ l * (u * u) * y = le_of_mul-le-mul_right all some in
    omega (arith, mul-le-mul_right (u * u * (g * g)) one)

square_is : (x : ℕ) → x ^ 2 ≡ x * x
square_is x = pow-suc x 1 ∙ ap (λ a. a * x) (pow-suc x 0 ∙ ap (λ a. a * x) (pow-zero x)) ∙ omega arith

fourth_is : (x : ℕ) → x ^ 4 ≡ x * x * (x * x)
fourth_is x = pow-add x 2 2 ∙ ap (λ y. y * y) (square_is x)

room_of_grains : (2 ^ 49 + 1) * grain ≤ (2 ^ 49 - 1) * (grain + 16385)
room_of_grains = omega (arith, grain_is)

-- a lower end of one fraction and an upper end of another one
ends_rounded : (a b c d : ℕ) (lo hi : Scaled) → IsDown a b lo → IsUp c d hi
    → numerator hi * denominator lo * (a * d) * (grain * grain)
    ≤ numerator lo * denominator hi * (c * b) * ((grain + 1) * (grain + 1))
ends_rounded a b c d lo hi down up =
    let both : a * denominator lo * grain * (numerator hi * d * grain) ≤ numerator lo * b * (grain + 1)
    * (c * denominator hi * (grain + 1)) = mul-le _ _ _ _ (down-near a b lo down) (up-near c d hi up) in
    omega (arith, both)

-- both factors as the ends of one pair
in_order : (nl dl nh dh a b c : ℕ) → 0 < c → a ≤ b → nl * c ≤ a * dl → b * dh ≤ nh * c → nl * dh ≤ nh * dl
in_order nl dl nh dh a b c some le below beyond =
    let p : nl * c * dh ≤ a * dl * dh = mul-le-mul_right dh below in
    let q : a * (dl * dh) ≤ b * (dl * dh) = mul-le-mul_right (dl * dh) le in
    let r : b * dh * dl ≤ nh * c * dl = mul-le-mul_right dl beyond in
    let all : nl * dh * c ≤ nh * dl * c = omega (arith, p, q, r) in
    le_of_mul-le-mul_right all some

factors : (lower upper : Pair) → IsRatio (2 ^ 49 - 1) (2 ^ 49) lower → IsRatio (2 ^ 49 + 1) (2 ^ 49) upper → Pair
factors lower upper a b = record {
  lo = lower.lo;
  hi = upper.hi;
  ordered = in_order (numerator lower.lo) (denominator lower.lo) (numerator upper.hi) (denominator upper.hi)
      (2 ^ 49 - 1) (2 ^ 49 + 1) (2 ^ 49) (lit< tt) (lit≤ tt) a.low.at_most b.high.at_least;
}

factors-near : (n : ℕ) (lower upper : Pair) (a : IsRatio (2 ^ 49 - 1) (2 ^ 49) lower)
    (b : IsRatio (2 ^ 49 + 1) (2 ^ 49) upper) → (2 ^ 49 + 1) * grain ≤ (2 ^ 49 - 1) * (grain + n)
    → IsNear (n + 4) (factors lower upper a b)
unfolding factors
factors-near n lower upper a b room = record {
  within = rw (pow-add grain n 4, pow-add above n 4, fourth_is grain, fourth_is above)
      (factors_width (numerator upper.hi * denominator lower.lo) (numerator lower.lo * denominator upper.hi)
      (2 ^ 49 - 1) (2 ^ 49 + 1) (2 ^ 49) grain above (grain ^ n) (above ^ n) (lit< tt)
      (ends_rounded (2 ^ 49 - 1) (2 ^ 49) (2 ^ 49 + 1) (2 ^ 49) lower.lo upper.hi a.low b.high)
      (room_is n grain (2 ^ 49 - 1) (2 ^ 49 + 1) room grain_above));
}

-- ---- the ends of a capacity

-- a product's ends are in order where those of its factors are
product_in_order : (nx dx ny dy mx ex my ey nl dl nh dh : ℕ) → 0 < dx * dy * (ex * ey) → nx * ex ≤ mx * dx
    → ny * ey ≤ my * dy → nl * (dx * dy) ≤ nx * ny * dl → mx * my * dh ≤ nh * (ex * ey) → nl * dh ≤ nh * dl
product_in_order nx dx ny dy mx ex my ey nl dl nh dh some first second below beyond =
    let both : nx * ex * (ny * ey) ≤ mx * dx * (my * dy) = mul-le _ _ _ _ first second in
    let p : nl * (dx * dy) * (ex * ey * dh) ≤ nx * ny * dl * (ex * ey * dh) = mul-le-mul_right (ex * ey * dh) below in
    let q : nx * ex * (ny * ey) * (dl * dh) ≤ mx * dx * (my * dy) * (dl * dh) = mul-le-mul_right (dl * dh) both in
    let r : mx * my * dh * (dx * dy * dl) ≤ nh * (ex * ey) * (dx * dy * dl) = mul-le-mul_right (dx * dy * dl) beyond in
    let all : nl * dh * (dx * dy * (ex * ey)) ≤ nh * dl * (dx * dy * (ex * ey)) = omega (arith, p, q, r) in
    le_of_mul-le-mul_right all some

ends : (x y : Pair) (lo hi : Scaled) → IsDown (numerator x.lo * numerator y.lo) (denominator x.lo * denominator y.lo) lo
    → IsUp (numerator x.hi * numerator y.hi) (denominator x.hi * denominator y.hi) hi → Pair
ends x y lo hi down up = record {
  lo = lo;
  hi = hi;
  ordered = product_in_order (numerator x.lo) (denominator x.lo) (numerator y.lo) (denominator y.lo)
      (numerator x.hi) (denominator x.hi) (numerator y.hi) (denominator y.hi) (numerator lo) (denominator lo)
      (numerator hi) (denominator hi)
      (mul-pos (mul-pos (denominator_positive x.lo) (denominator_positive y.lo))
      (mul-pos (denominator_positive x.hi) (denominator_positive y.hi))) x.ordered y.ordered down.at_most up.at_least;
}

ends-sharp : (x y : Pair) (v w : ℕ) (lo hi : Scaled)
    → IsDown (numerator x.lo * numerator y.lo) (denominator x.lo * denominator y.lo) lo
    → IsUp (numerator x.hi * numerator y.hi) (denominator x.hi * denominator y.hi) hi → v + w ≤ 2 ^ 21
    → IsNear v x → IsNear w y → AreNear lo hi
unfolding ends
ends-sharp x y v w lo hi down up few nx ny =
    near-sharp (v + w) (ends x y lo hi down up) few
    (product-near x y (ends x y lo hi down up) v w (record { low = down; high = up }) nx ny)

constant-sharp : (constant : Pair) (lo hi : Scaled) → IsNear 46300 constant → IsLessened constant lo
    → IsRaised constant hi → AreNear lo hi
unfolding factors
constant-sharp constant lo hi near x y =
    subst (λ (s : Scaled). AreNear s hi) x.low_is
    (subst (λ (s : Scaled). AreNear x.less.lo s) y.high_is
    (ends-sharp constant (factors x.factor y.factor x.factor_is y.factor_is) 46300 16389 x.less.lo y.more.hi
    x.less_is.low y.more_is.high (lit≤ tt) near
    (factors-near 16385 x.factor y.factor x.factor_is y.factor_is room_of_grains)))

fittings-sharp : (n : ℕ) (diameter minor : Decimal) (us : Bool) (made : Option Pair)
    → IsMinorWith n diameter minor us made → IfSome made (λ m. AreNear m.lo m.hi)
fittings-sharp zero diameter minor us made is =
    subst (λ (o : Option Pair). IfSome o (λ m. AreNear m.lo m.hi)) (sym is) tt
fittings-sharp (suc n) diameter minor us made is =
    subst (λ (o : Option Pair). IfSome o (λ m. AreNear m.lo m.hi)) (sym is.1)
    (near-sharp 36 is.0 (lit≤ tt) (minor-near diameter minor us is.0 is.2))

pub sharp-made : (c : PowerCapacity) → IsMade c → IsSharp c
sharp-made c made = record {
  constant = constant-sharp made.constant c.low c.high
      (constant-near c.pipe.length c.pipe.diameter c.pipe.coefficient c.pipe.us made.constant made.constant_is)
      made.low_is made.high_is;
  fittings = fittings-sharp (billionths c.pipe.minor) c.pipe.diameter c.pipe.minor c.pipe.us c.minor made.minor_is;
}
