-- The pair of a valve or pipe encloses the exact loss of the file's numbers.
use Rattle.std.proofs.Common.{◌≡◌, ℕ, zero, suc, ◌*◌, ◌^◌, ◌<◌, ◌≤◌, Bool, true, false, refl, ap, arith, mul-pos, lit<}
use Rattle.hyd_num.specs.declared.binary.Scaled.{Scaled}
use Rattle.hyd_num.specs.declared.pairs.Pair.{Pair}
use Rattle.hyd_num.specs.declared.decimals.Decimal.{Decimal}
use Rattle.hyd_num.specs.Fraction.{Fraction, fraction, times, plus, minus, over, power, AtMost}
use Rattle.hyd_num.specs.FileQuantity.{ten_thousandths_of_metre_in_foot, billionths, ordinary, feet, feet_across}
use Rattle.hyd_num.specs.BinaryNumbers.{numerator, denominator, as_fraction}
use Rattle.hyd_num.specs.Pairs.{Encloses}
use Rattle.hyd_num.specs.CapacityPairs.{IsMinorPair, IsFrictionPair, IsUnitOver, IsValvePair, IsPipePairWithoutMinor}
use Rattle.hyd_num.specs.CapacityPairs.{IsFittedPipePair, IsPipePair, IsPipePairWith}
use Rattle.hyd_spec.specs.Loss.{head_in_feet, flow_in_cfs, friction, minor_loss, PipeLossAtMost, PipeLossAtLeast}
use Rattle.hyd_spec.specs.Loss.{ValveLossAtMost, ValveLossAtLeast}
use Rattle.hyd_num.proofs.EndsInOrder.{denominator_positive, numerator_positive}
use Rattle.hyd_lemmas.proofs.Fractions.{AtMost-itself, AtMost-along}
use Rattle.hyd_lemmas.proofs.PairOperations.{turned, ratio-encloses, product-encloses, quotient-encloses}
use Rattle.hyd_lemmas.proofs.PairOperations.{power-encloses}
use Rattle.hyd_lemmas.proofs.PairOperations.{quotient-low, quotient-high, sum-low, sum-high, root-low, root-high}
use Rattle.hyd_lemmas.proofs.Losses.{square_is, at_most_lost, at_least_lost, second_at_most, first_at_most}
use Rattle.hyd_lemmas.proofs.Losses.{first_at_least, power_at_most, power_at_least}

-- the capacity of a link that loses one foot at one cubic foot a second
abbrev unit : Fraction
unit = fraction (86400 ^ 2 * ten_thousandths_of_metre_in_foot ^ 5 * 10) (10 ^ 20)

pub minor-encloses : (diameter k : Decimal) (us : Bool) (r : Pair) → IsMinorPair diameter k us r
    → Encloses r (minor_loss us diameter k)
minor-encloses diameter k us r made =
    quotient-encloses made.scaled made.fourth r _ _ made.minor_is
    (product-encloses made.factor made.coefficient made.scaled _ _ made.scaled_is
    (ratio-encloses 2517 100000 made.factor made.factor_is) (ratio-encloses _ _ made.coefficient made.coefficient_is))
    (power-encloses made.across made.fourth 4 (feet_across us (billionths diameter))
    (ratio-encloses _ _ made.across made.across_is) made.fourth_is)

-- a capacity at most, at least the unit over what is lost
unit-low : (lost r : Pair) (x : Fraction) → IsUnitOver lost r → AtMost x (as_fraction lost.hi)
    → AtMost (as_fraction r.lo) (over unit x)
unit-low lost r x made over =
    quotient-low made.unit lost r unit x made.capacity_is (ratio-encloses _ _ made.unit made.unit_is).low over

unit-high : (lost r : Pair) (x : Fraction) → IsUnitOver lost r → AtMost (as_fraction lost.lo) x
    → AtMost (over unit x) (as_fraction r.hi)
unit-high lost r x made below =
    quotient-high made.unit lost r unit x made.capacity_is (ratio-encloses _ _ made.unit made.unit_is).high below

-- what a flow loses in feet, by the capacity's ends
feet_at_most : (lost : Fraction) (end : Scaled) (S q y : ℕ) → AtMost (as_fraction end) (over unit lost)
    → (q * q) * denominator end ≤ numerator end * (S * y) → AtMost (times lost (power (flow_in_cfs S q) 2))
    (head_in_feet S y)
feet_at_most lost end S q y below flow =
    at_most_lost unit lost (as_fraction end) 24465755455488 1000 (ten_thousandths_of_metre_in_foot * 10 ^ 9) S q y
    (lit< tt) (denominator_positive end) refl below flow

feet_at_least : (lost : Fraction) (end : Scaled) (S q y : ℕ) → AtMost (over unit lost) (as_fraction end)
    → numerator end * (S * y) ≤ (q * q) * denominator end → AtMost (head_in_feet S y)
    (times lost (power (flow_in_cfs S q) 2))
feet_at_least lost end S q y above flow =
    at_least_lost unit lost (as_fraction end) 24465755455488 1000 (ten_thousandths_of_metre_in_foot * 10 ^ 9) S q y
    (lit< tt) (denominator_positive end) refl above flow

-- ---- valves

pub valve-at_most : (diameter k : Decimal) (us : Bool) (r : Pair) (S q y : ℕ) → IsValvePair diameter k us r
    → (q * q) * denominator r.lo ≤ numerator r.lo * (S * y) → ValveLossAtMost us diameter k S q y
valve-at_most diameter k us r S q y made flow =
    feet_at_most (minor_loss us diameter k) r.lo S q y
    (unit-low made.lost r _ made.capacity_is (minor-encloses diameter k us made.lost made.lost_is).high) flow

pub valve-at_least : (diameter k : Decimal) (us : Bool) (r : Pair) (S q y : ℕ) → IsValvePair diameter k us r
    → numerator r.hi * (S * y) ≤ (q * q) * denominator r.hi → ValveLossAtLeast us diameter k S q y
valve-at_least diameter k us r S q y made flow =
    feet_at_least (minor_loss us diameter k) r.hi S q y
    (unit-high made.lost r _ made.capacity_is (minor-encloses diameter k us made.lost made.lost_is).low) flow

-- ---- pipes

regrouped : (v n d : ℕ) (p : Pair) → Encloses p (times (times (times (fraction 466 100) (ordinary v)) (ordinary v))
    (fraction n d))
    → Encloses p (times (times (fraction 466 100) (power (ordinary v) 2)) (fraction n d))
regrouped v n d p h = turned p _ _ _ _ (omega (arith, ap (λ x. x * n) (square_is v))) (omega arith) h

along-encloses : (length diameter roughness : Decimal) (us : Bool) (r : Pair)
    (made : IsFrictionPair length diameter roughness us r)
    → Encloses made.along (friction us length roughness)
along-encloses length diameter roughness us r made =
    regrouped (billionths roughness) (feet us (billionths length)).num (feet us (billionths length)).den made.along
    (product-encloses made.twice_rough made.long made.along _ _ made.along_is
    (product-encloses made.once_rough made.rough made.twice_rough _ _ made.twice_rough_is
    (product-encloses made.factor made.rough made.once_rough _ _ made.once_rough_is
    (ratio-encloses 466 100 made.factor made.factor_is) (ratio-encloses _ _ made.rough made.rough_is))
    (ratio-encloses _ _ made.rough made.rough_is))
    (ratio-encloses _ _ made.long made.long_is))

-- the friction's upper end is at least what it is for the root's lower end, and the other way round
friction-high : (length diameter roughness : Decimal) (us : Bool) (r : Pair)
    (made : IsFrictionPair length diameter roughness us r)
    → AtMost (over (friction us length roughness) (as_fraction made.root.lo)) (as_fraction r.hi)
friction-high length diameter roughness us r made =
    quotient-high made.along made.root r _ _ made.friction_is (along-encloses length diameter roughness us r
    made).high (AtMost-itself (as_fraction made.root.lo))

friction-low : (length diameter roughness : Decimal) (us : Bool) (r : Pair)
    (made : IsFrictionPair length diameter roughness us r)
    → AtMost (as_fraction r.lo) (over (friction us length roughness) (as_fraction made.root.hi))
friction-low length diameter roughness us r made =
    quotient-low made.along made.root r _ _ made.friction_is (along-encloses length diameter roughness us r made).low
    (AtMost-itself (as_fraction made.root.hi))

pub feet_above : (us : Bool) (v : ℕ) → 0 < (feet us v).den
feet_above true v = lit< tt
feet_above false v = lit< tt

pipe_at_most : (length diameter roughness minor : Decimal) (us : Bool) (f r : Pair)
    (made : IsFrictionPair length diameter roughness us f) (S q y : ℕ)
    → AtMost (as_fraction r.lo) (over unit (plus (over (friction us length roughness) (as_fraction made.root.lo))
    (minor_loss us diameter minor)))
    → (q * q) * denominator r.lo ≤ numerator r.lo * (S * y) → PipeLossAtMost us length diameter roughness minor S q y
pipe_at_most length diameter roughness minor us f r made S q y end flow =
    let rub : Fraction = over (friction us length roughness) (as_fraction made.root.lo) in
    let fit : Fraction = minor_loss us diameter minor in
    let squared : Fraction = power (flow_in_cfs S q) 2 in
    let all : AtMost (times (plus rub fit) squared) (head_in_feet S y) = feet_at_most (plus rub fit) r.lo S q y end
    flow in
    record {
      minor_within = second_at_most rub fit squared (head_in_feet S y)
          (mul-pos (mul-pos (lit< tt) (feet_above us (billionths length))) (numerator_positive made.root.lo)) all;
      friction_within = power_at_most (friction us length roughness) (as_fraction made.root.lo) squared
          (minus (head_in_feet S y) (times fit squared)) (feet_across us (billionths diameter)) 100 533
          (denominator_positive made.root.lo)
          (first_at_most rub fit squared (head_in_feet S y) all)
          (root-low made.across made.root _ made.root_is (ratio-encloses _ _ made.across made.across_is));
    }

pipe_at_least : (length diameter roughness minor : Decimal) (us : Bool) (f r : Pair)
    (made : IsFrictionPair length diameter roughness us f) (S q y : ℕ)
    → AtMost (over unit (plus (over (friction us length roughness) (as_fraction made.root.hi))
    (minor_loss us diameter minor))) (as_fraction r.hi)
    → numerator r.hi * (S * y) ≤ (q * q) * denominator r.hi → PipeLossAtLeast us length diameter roughness minor S q y
pipe_at_least length diameter roughness minor us f r made S q y end flow =
    let rub : Fraction = over (friction us length roughness) (as_fraction made.root.hi) in
    let fit : Fraction = minor_loss us diameter minor in
    let squared : Fraction = power (flow_in_cfs S q) 2 in
    power_at_least (friction us length roughness) (as_fraction made.root.hi) squared
    (minus (head_in_feet S y) (times fit squared)) (feet_across us (billionths diameter)) 100 533
    (denominator_positive made.root.hi)
    (first_at_least rub fit squared (head_in_feet S y) (feet_at_least (plus rub fit) r.hi S q y end flow))
    (root-high made.across made.root _ made.root_is (ratio-encloses _ _ made.across made.across_is))

-- nothing is lost to fittings where their coefficient is 0
nothing_more : (x m : Fraction) → m.num ≡ 0 → AtMost (plus x m) x
nothing_more x m none =
    record { crossed = omega (arith, ap (λ n. n * x.den * x.den) none) }

nothing_less : (x m : Fraction) → AtMost x (plus x m)
nothing_less x m = record { crossed = omega arith }

no_fittings : (diameter minor : Decimal) (us : Bool) → 0 ≡ billionths minor → (minor_loss us diameter minor).num ≡ 0
no_fittings diameter minor us e =
    omega (arith, ap (λ v. v * (power (feet_across us (billionths diameter)) 4).den) e)

without_minor_at_most : (length diameter roughness minor : Decimal) (us : Bool) (r : Pair) (S q y : ℕ) → 0 ≡ billionths
    minor → IsPipePairWithoutMinor length diameter roughness us r
    → (q * q) * denominator r.lo ≤ numerator r.lo * (S * y) → PipeLossAtMost us length diameter roughness minor S q y
without_minor_at_most length diameter roughness minor us r S q y none made flow =
    let rub : Fraction = over (friction us length roughness) (as_fraction made.friction_is.root.lo) in
    let fit : Fraction = minor_loss us diameter minor in
    pipe_at_most length diameter roughness minor us made.friction r made.friction_is S q y
    (unit-low made.friction r (plus rub fit) made.capacity_is
    (AtMost-along (plus rub fit) rub (as_fraction made.friction.hi)
    (mul-pos (mul-pos (lit< tt) (feet_above us (billionths length))) (numerator_positive made.friction_is.root.lo))
    (nothing_more rub fit (no_fittings diameter minor us none))
    (friction-high length diameter roughness us made.friction made.friction_is)))
    flow

without_minor_at_least : (length diameter roughness minor : Decimal) (us : Bool) (r : Pair) (S q y : ℕ)
    → IsPipePairWithoutMinor length diameter roughness us r
    → numerator r.hi * (S * y) ≤ (q * q) * denominator r.hi → PipeLossAtLeast us length diameter roughness minor S q y
without_minor_at_least length diameter roughness minor us r S q y made flow =
    let rub : Fraction = over (friction us length roughness) (as_fraction made.friction_is.root.hi) in
    let fit : Fraction = minor_loss us diameter minor in
    pipe_at_least length diameter roughness minor us made.friction r made.friction_is S q y
    (unit-high made.friction r (plus rub fit) made.capacity_is
    (AtMost-along (as_fraction made.friction.lo) rub (plus rub fit)
    (mul-pos (mul-pos (lit< tt) (feet_above us (billionths length))) (numerator_positive made.friction_is.root.hi))
    (friction-low length diameter roughness us made.friction made.friction_is)
    (nothing_less rub fit)))
    flow

fitted_at_most : (length diameter roughness minor : Decimal) (us : Bool) (r : Pair) (S q y : ℕ)
    → IsFittedPipePair length diameter roughness minor us r
    → (q * q) * denominator r.lo ≤ numerator r.lo * (S * y) → PipeLossAtMost us length diameter roughness minor S q y
fitted_at_most length diameter roughness minor us r S q y made flow =
    pipe_at_most length diameter roughness minor us made.friction r made.friction_is S q y
    (unit-low made.lost r _ made.capacity_is
    (sum-high made.friction made.fittings made.lost _ _ made.lost_is
    (friction-high length diameter roughness us made.friction made.friction_is)
    (minor-encloses diameter minor us made.fittings made.fittings_is).high))
    flow

fitted_at_least : (length diameter roughness minor : Decimal) (us : Bool) (r : Pair) (S q y : ℕ)
    → IsFittedPipePair length diameter roughness minor us r
    → numerator r.hi * (S * y) ≤ (q * q) * denominator r.hi → PipeLossAtLeast us length diameter roughness minor S q y
fitted_at_least length diameter roughness minor us r S q y made flow =
    pipe_at_least length diameter roughness minor us made.friction r made.friction_is S q y
    (unit-high made.lost r _ made.capacity_is
    (sum-low made.friction made.fittings made.lost _ _ made.lost_is
    (friction-low length diameter roughness us made.friction made.friction_is)
    (minor-encloses diameter minor us made.fittings made.fittings_is).low))
    flow

pipe_by_minor_at_most : (v : ℕ) (length diameter roughness minor : Decimal) (us : Bool) (r : Pair) (S q y : ℕ)
    → v ≡ billionths minor
    → IsPipePairWith v length diameter roughness minor us r
    → (q * q) * denominator r.lo ≤ numerator r.lo * (S * y) → PipeLossAtMost us length diameter roughness minor S q y
pipe_by_minor_at_most zero length diameter roughness minor us r S q y e made flow = without_minor_at_most length
    diameter roughness minor us r S q y e made flow
pipe_by_minor_at_most (suc v) length diameter roughness minor us r S q y e made flow = fitted_at_most length diameter
    roughness minor us r S q y made flow

pipe_by_minor_at_least : (v : ℕ) (length diameter roughness minor : Decimal) (us : Bool) (r : Pair) (S q y : ℕ)
    → IsPipePairWith v length diameter roughness minor us r
    → numerator r.hi * (S * y) ≤ (q * q) * denominator r.hi → PipeLossAtLeast us length diameter roughness minor S q y
pipe_by_minor_at_least zero length diameter roughness minor us r S q y made flow = without_minor_at_least length
    diameter roughness minor us r S q y made flow
pipe_by_minor_at_least (suc v) length diameter roughness minor us r S q y made flow = fitted_at_least length diameter
    roughness minor us r S q y made flow

pub pipe-at_most : (length diameter roughness minor : Decimal) (us : Bool) (r : Pair) (S q y : ℕ)
    → IsPipePair length diameter roughness minor us r
    → (q * q) * denominator r.lo ≤ numerator r.lo * (S * y) → PipeLossAtMost us length diameter roughness minor S q y
pipe-at_most length diameter roughness minor us r S q y made flow =
    pipe_by_minor_at_most (billionths minor) length diameter roughness minor us r S q y refl made flow

pub pipe-at_least : (length diameter roughness minor : Decimal) (us : Bool) (r : Pair) (S q y : ℕ)
    → IsPipePair length diameter roughness minor us r
    → numerator r.hi * (S * y) ≤ (q * q) * denominator r.hi → PipeLossAtLeast us length diameter roughness minor S q y
pipe-at_least length diameter roughness minor us r S q y made flow =
    pipe_by_minor_at_least (billionths minor) length diameter roughness minor us r S q y made flow
