-- Of two emitters, and of two pressure-driven demands, the lesser has the lesser capacity: each step of their making
-- rises with the number that it begins with.
use Rattle.std.proofs.Common.{◌≡◌, ℕ, ◌*◌, ◌<◌, ◌≤◌, ℤ, pos, negsuc, ◌≤ℤ◌, subst, arith, mul-pos}
use Rattle.std.proofs.Math.Nat.{mul-le-mul_right}
use Rattle.std.proofs.lemmas.Int.{ints}
use borrow.Author.Differences.{up}
use Rattle.hyd_num.specs.declared.binary.Scaled.{Scaled}
use Rattle.hyd_num.specs.declared.pairs.Pair.{Pair}
use Rattle.hyd_num.specs.Fraction.{fraction, AtMost}
use Rattle.hyd_num.specs.BinaryNumbers.{as_fraction, numerator, denominator, IsDown, IsUp}
use Rattle.hyd_num.specs.Pairs.{IsRatio, IsProduct, IsQuotient}
use Rattle.hyd_num.specs.FileQuantity.{flow_factor, flow_fraction, billionths}
use Rattle.hyd_num.specs.CapacityPairs.{IsMade, StandsFor, IsSquareOver}
use Rattle.hyd_num.proofs.EndsInOrder.{denominator_positive, numerator_positive}
use Rattle.hyd_spec.specs.ProgramTypes.{Capacity, Origin, Decimal, FlowUnit, Emitter, PressureDemand}
use Rattle.hyd_lemmas.proofs.Fractions.{AtMost-itself, times-rises, over-rises}
use Rattle.hyd_lemmas.proofs.PairOperations.{down_below, up_above}
use Rattle.hyd_lemmas.proofs.PumpEmitterAndDemandPairs.{ratio-above}
use Rattle.hyd_lemmas.proofs.SharpCapacities.{some_factor}
use Rattle.hyd_lemmas.proofs.OnePair.{IsBelow}

-- ---- rounding, products and quotients rise

down-rises : (p q u v : ℕ) (s t : Scaled) → 0 < q → IsDown p q s → IsDown u v t → AtMost (fraction p q) (fraction u v)
    → AtMost (as_fraction s) (as_fraction t)
down-rises p q u v s t above ds dt le =
    record { crossed = dt.greatest s (down_below p q s (fraction u v) above ds le).crossed }

up-rises : (p q u v : ℕ) (s t : Scaled) → 0 < v → IsUp p q s → IsUp u v t → AtMost (fraction p q) (fraction u v)
    → AtMost (as_fraction s) (as_fraction t)
up-rises p q u v s t above us ut le =
    record { crossed = us.least t (up_above u v t (fraction p q) above ut le).crossed }

ratio-rises : (p q u v : ℕ) (r s : Pair) → IsRatio p q r → IsRatio u v s → AtMost (fraction p q) (fraction u v)
    → IsBelow r s
ratio-rises p q u v r s mr ms le = record {
  low = down-rises p q u v r.lo s.lo (some_factor p q r.hi (ratio-above p q r mr) mr.high) mr.low ms.low le;
  high = up-rises p q u v r.hi s.hi (some_factor u v s.hi (ratio-above u v s ms) ms.high) mr.high ms.high le;
}

square-rises : (x r u s : Pair) → IsProduct x x r → IsProduct u u s → IsBelow x u → IsBelow r s
square-rises x r u s mr ms le = record {
  low = down-rises _ _ _ _ r.lo s.lo (mul-pos (denominator_positive x.lo) (denominator_positive x.lo)) mr.low ms.low
      (times-rises (as_fraction x.lo) (as_fraction u.lo) (as_fraction x.lo) (as_fraction u.lo) le.low le.low);
  high = up-rises _ _ _ _ r.hi s.hi (mul-pos (denominator_positive u.hi) (denominator_positive u.hi)) mr.high ms.high
      (times-rises (as_fraction x.hi) (as_fraction u.hi) (as_fraction x.hi) (as_fraction u.hi) le.high le.high);
}

quotient-rises : (x y r u v s : Pair) → IsQuotient x y r → IsQuotient u v s → IsBelow x u → IsBelow v y → IsBelow r s
quotient-rises x y r u v s mr ms le over = record {
  low = down-rises _ _ _ _ r.lo s.lo (mul-pos (denominator_positive x.lo) (numerator_positive y.hi)) mr.low ms.low
      (over-rises (as_fraction x.lo) (as_fraction u.lo) (as_fraction y.hi) (as_fraction v.hi) le.low over.high);
  high = up-rises _ _ _ _ r.hi s.hi (mul-pos (denominator_positive u.hi) (numerator_positive v.lo)) mr.high ms.high
      (over-rises (as_fraction x.hi) (as_fraction u.hi) (as_fraction y.lo) (as_fraction v.lo) le.high over.low);
}

-- the square of a greater flow over the same head
square-over-rises : (p q u v m n : ℕ) (f h r g i s : Pair) → IsRatio p q f → IsRatio u v g
    → AtMost (fraction p q) (fraction u v) → IsRatio m n h → IsRatio m n i → IsSquareOver f h r → IsSquareOver g i s
    → IsBelow r s
square-over-rises p q u v m n f h r g i s mf mg le mh mi mr ms =
    quotient-rises mr.square h r ms.square i s mr.capacity_is ms.capacity_is
    (square-rises f mr.square g ms.square mr.square_is ms.square_is (ratio-rises p q u v f g mf mg le))
    (ratio-rises m n m n i h mi mh (AtMost-itself (fraction m n)))

-- ---- origins

up-rises-with : (a b : ℤ) → a ≤ℤ b → up a ≤ up b
up-rises-with (pos m) (pos n) le = omega (arith, ints, le)
up-rises-with (pos m) (negsuc n) le = absurd (omega (arith, ints, le))
up-rises-with (negsuc m) b le = omega arith

flow-rises : (unit : FlowUnit) (m n : ℕ) → m ≤ n → AtMost (flow_fraction unit m) (flow_fraction unit n)
flow-rises unit m n le = record {
  crossed = (let a = mul-le-mul_right ((flow_factor unit).num * (100 * (flow_factor unit).den)) le in
      omega (arith, a));
}

emitter-pairs : (a b : Decimal) (unit : FlowUnit) (r s : Pair) → a.nano ≤ℤ b.nano → StandsFor (Emitter a unit) r
    → StandsFor (Emitter b unit) s → IsBelow r s
emitter-pairs a b unit r s le mr ms =
    square-over-rises _ _ _ _ _ _ mr.flows mr.head r ms.flows ms.head s mr.flows_is ms.flows_is
    (flow-rises unit (billionths a) (billionths b) (up-rises-with a.nano b.nano le)) mr.head_is ms.head_is
    mr.capacity_is ms.capacity_is

demand-pairs : (a b : ℤ) (minimum required : Decimal) (us : _) (r s : Pair) → a ≤ℤ b
    → StandsFor (PressureDemand a minimum required us) r → StandsFor (PressureDemand b minimum required us) s
    → IsBelow r s
demand-pairs a b minimum required us r s le mr ms =
    square-over-rises _ _ _ _ _ _ mr.flows mr.head r ms.flows ms.head s mr.flows_is ms.flows_is
    (record { crossed = (let l = up-rises-with a b le in omega (arith, l)) }) mr.head_is ms.head_is
    mr.capacity_is ms.capacity_is

-- ---- capacities

-- neither end of the first is above that of the second
pub record IsLesser (a b : Capacity) : Type 0 where
  pub low : numerator a.lo * denominator b.lo ≤ numerator b.lo * denominator a.lo
  pub high : numerator a.hi * denominator b.hi ≤ numerator b.hi * denominator a.hi

from-pairs : (a b : Capacity) (r s : Pair) → r.lo ≡ a.lo → r.hi ≡ a.hi → s.lo ≡ b.lo → s.hi ≡ b.hi → IsBelow r s
    → IsLesser a b
from-pairs a b r s al ah bl bh le = record {
  low = subst (λ (x : Scaled). numerator x * denominator b.lo ≤ numerator b.lo * denominator x) al
      (subst (λ (y : Scaled). numerator r.lo * denominator y ≤ numerator y * denominator r.lo) bl le.low.crossed);
  high = subst (λ (x : Scaled). numerator x * denominator b.hi ≤ numerator b.hi * denominator x) ah
      (subst (λ (y : Scaled). numerator r.hi * denominator y ≤ numerator y * denominator r.hi) bh le.high.crossed);
}

pub lesser-emitter : (a b : Capacity) (c d : Decimal) (unit : FlowUnit) → a.origin ≡ Emitter c unit
    → b.origin ≡ Emitter d unit → IsMade a → IsMade b → c.nano ≤ℤ d.nano → IsLesser a b
lesser-emitter a b c d unit ao bo ma mb le =
    from-pairs a b ma.pair mb.pair ma.low ma.high mb.low mb.high
    (emitter-pairs c d unit ma.pair mb.pair le (subst (λ (o : Origin). StandsFor o ma.pair) ao ma.made)
    (subst (λ (o : Origin). StandsFor o mb.pair) bo mb.made))

pub lesser-demand : (a b : Capacity) (d e : ℤ) (minimum required : Decimal) (us : _)
    → a.origin ≡ PressureDemand d minimum required us → b.origin ≡ PressureDemand e minimum required us → IsMade a
    → IsMade b → d ≤ℤ e → IsLesser a b
lesser-demand a b d e minimum required us ao bo ma mb le =
    from-pairs a b ma.pair mb.pair ma.low ma.high mb.low mb.high
    (demand-pairs d e minimum required us ma.pair mb.pair le (subst (λ (o : Origin). StandsFor o ma.pair) ao ma.made)
    (subst (λ (o : Origin). StandsFor o mb.pair) bo mb.made))
