-- The numbers of a file stand for one pair: of two that they stand for, neither end of one is above that of the other.
use Rattle.std.proofs.Common.{◌≡◌, ℕ, zero, suc, ◌<◌, Bool, refl, arith, mul-pos}
use Rattle.hyd_num.specs.declared.binary.Scaled.{Scaled}
use Rattle.hyd_num.specs.declared.pairs.Pair.{Pair}
use Rattle.hyd_num.specs.declared.decimals.Decimal.{Decimal}
use Rattle.hyd_num.specs.Fraction.{fraction, AtMost}
use Rattle.hyd_num.specs.BinaryNumbers.{as_fraction, IsDown, IsUp}
use Rattle.hyd_num.specs.Pairs.{IsRatio, IsProduct, IsQuotient, IsSum, IsPower, once, even, odd, IsRootDown, IsRootUp}
use Rattle.hyd_num.specs.Pairs.{IsRoot533}
use Rattle.hyd_num.specs.FileQuantity.{billionths}
use Rattle.hyd_num.specs.CapacityPairs.{StandsFor, IsMinorPair, IsFrictionPair, IsUnitOver, IsSquareOver}
use Rattle.hyd_num.specs.CapacityPairs.{IsPipePairWith}
use Rattle.hyd_spec.specs.ProgramTypes.{Origin, Pipe, Valve, Pump, Emitter, PressureDemand}
use Rattle.hyd_num.proofs.EndsInOrder.{denominator_positive, numerator_positive}
use Rattle.hyd_lemmas.proofs.Fractions.{AtMost-itself, AtMost-along, times-rises, over-rises, plus-rises}
use Rattle.hyd_lemmas.proofs.PairOperations.{down_below, up_above}
use Rattle.hyd_lemmas.proofs.PumpEmitterAndDemandPairs.{ratio-above}
use Rattle.hyd_lemmas.proofs.SharpCapacities.{some_factor}

-- neither end of r is above that of s
pub record IsBelow (r s : Pair) : Type 0 where
  pub low : AtMost (as_fraction r.lo) (as_fraction s.lo)
  pub high : AtMost (as_fraction r.hi) (as_fraction s.hi)

down-rises : (p q u v : ℕ) (s t : Scaled) → 0 < q → IsDown p q s → IsDown u v t → AtMost (fraction p q) (fraction u v)
    → AtMost (as_fraction s) (as_fraction t)
down-rises p q u v s t above ds dt le =
    let l : AtMost (as_fraction s) (fraction u v) = down_below p q s (fraction u v) above ds le in
    record { crossed = dt.greatest s l.crossed }

up-rises : (p q u v : ℕ) (s t : Scaled) → 0 < v → IsUp p q s → IsUp u v t → AtMost (fraction p q) (fraction u v)
    → AtMost (as_fraction s) (as_fraction t)
up-rises p q u v s t above us ut le =
    let l : AtMost (fraction p q) (as_fraction t) = up_above u v t (fraction p q) above ut le in
    record { crossed = us.least t l.crossed }

ratio-below : (p q : ℕ) (r s : Pair) → IsRatio p q r → IsRatio p q s → IsBelow r s
ratio-below p q r s mr ms =
    let some : 0 < q = some_factor p q r.hi (ratio-above p q r mr) mr.high in
    record {
      low = down-rises p q p q r.lo s.lo some mr.low ms.low (AtMost-itself (fraction p q));
      high = up-rises p q p q r.hi s.hi some mr.high ms.high (AtMost-itself (fraction p q));
    }

product-below : (x y r u v s : Pair) → IsProduct x y r → IsProduct u v s → IsBelow x u → IsBelow y v → IsBelow r s
product-below x y r u v s mr ms p q = record {
  low = down-rises _ _ _ _ r.lo s.lo (mul-pos (denominator_positive x.lo) (denominator_positive y.lo)) mr.low ms.low
      (times-rises (as_fraction x.lo) (as_fraction u.lo) (as_fraction y.lo) (as_fraction v.lo) p.low q.low);
  high = up-rises _ _ _ _ r.hi s.hi (mul-pos (denominator_positive u.hi) (denominator_positive v.hi)) mr.high ms.high
      (times-rises (as_fraction x.hi) (as_fraction u.hi) (as_fraction y.hi) (as_fraction v.hi) p.high q.high);
}

quotient-below : (x y r u v s : Pair) → IsQuotient x y r → IsQuotient u v s → IsBelow x u → IsBelow v y → IsBelow r s
quotient-below x y r u v s mr ms p q = record {
  low = down-rises _ _ _ _ r.lo s.lo (mul-pos (denominator_positive x.lo) (numerator_positive y.hi)) mr.low ms.low
      (over-rises (as_fraction x.lo) (as_fraction u.lo) (as_fraction y.hi) (as_fraction v.hi) p.low q.high);
  high = up-rises _ _ _ _ r.hi s.hi (mul-pos (denominator_positive u.hi) (numerator_positive v.lo)) mr.high ms.high
      (over-rises (as_fraction x.hi) (as_fraction u.hi) (as_fraction y.lo) (as_fraction v.lo) p.high q.low);
}

sum-below : (x y r u v s : Pair) → IsSum x y r → IsSum u v s → IsBelow x u → IsBelow y v → IsBelow r s
sum-below x y r u v s mr ms p q = record {
  low = down-rises _ _ _ _ r.lo s.lo (mul-pos (denominator_positive x.lo) (denominator_positive y.lo)) mr.low ms.low
      (plus-rises (as_fraction x.lo) (as_fraction u.lo) (as_fraction y.lo) (as_fraction v.lo) p.low q.low);
  high = up-rises _ _ _ _ r.hi s.hi (mul-pos (denominator_positive u.hi) (denominator_positive v.hi)) mr.high ms.high
      (plus-rises (as_fraction x.hi) (as_fraction u.hi) (as_fraction y.hi) (as_fraction v.hi) p.high q.high);
}

-- no pair is to the power 0
digits_above : (x r : Pair) (n : ℕ) → IsPower x n r → 0 < n
digits_above x r n once = omega arith
digits_above x r k (even n k' s r' e made square) = let some : 0 < n = digits_above x s n made in omega (arith, e, some)
digits_above x r k (odd n k' h s r' e made square more) = omega (arith, e)

power-below : (x u r s : Pair) (n k : ℕ) → n ≡ k → IsBelow x u → IsPower x n r → IsPower u k s → IsBelow r s
power-below x u r s n k same p once once = p
power-below x u r s n k same p once (even m k' h s' e made square) = absurd (omega (arith, same, e))
power-below x u r s n k same p once (odd m k' h i s' e made square more) =
    let some : 0 < m = digits_above u h m made in absurd (omega (arith, same, e, some))
power-below x u r s n k same p (even m n' h r' e made square) once = absurd (omega (arith, same, e))
power-below x u r s n k same p (even m n' h r' e made square) (even l k' i s' f made' square') =
    let half : IsBelow h i = power-below x u h i m l (omega (arith, same, e, f)) p made made' in
    product-below h h r i i s square square' half half
power-below x u r s n k same p (even m n' h r' e made square) (odd l k' i j s' f made' square' more) =
    absurd (omega (arith, same, e, f))
power-below x u r s n k same p (odd m n' h i r' e made square more) once =
    let some : 0 < m = digits_above x h m made in absurd (omega (arith, same, e, some))
power-below x u r s n k same p (odd m n' h i r' e made square more) (even l k' j s' f made' square') =
    absurd (omega (arith, same, e, f))
power-below x u r s n k same p (odd m n' h i r' e made square more) (odd l k' j g s' f made' square' more') =
    let half : IsBelow h j = power-below x u h j m l (omega (arith, same, e, f)) p made made' in
    product-below i x r g u s more more' (product-below h h i j j g square square' half half) p

root_down-below : (b c s t : Scaled) → AtMost (as_fraction b) (as_fraction c) → IsRootDown b s → IsRootDown c t
    → AtMost (as_fraction s) (as_fraction t)
root_down-below b c s t le ms mt =
    let below = ms.below in
    let end : AtMost (as_fraction below.result.hi) (as_fraction c) =
    AtMost-along (as_fraction below.result.hi) (as_fraction b) (as_fraction c) (denominator_positive b) (record {
      crossed = below.at_most;
    }) le in
    record { crossed = mt.greatest s (record { result = below.result; made = below.made; at_most = end.crossed }) }

root_up-below : (b c s t : Scaled) → AtMost (as_fraction b) (as_fraction c) → IsRootUp b s → IsRootUp c t
    → AtMost (as_fraction s) (as_fraction t)
root_up-below b c s t le ms mt =
    let over = mt.above in
    let end : AtMost (as_fraction b) (as_fraction over.result.lo) =
    AtMost-along (as_fraction b) (as_fraction c) (as_fraction over.result.lo) (denominator_positive c) le (record {
      crossed = over.at_least;
    }) in
    record { crossed = ms.least t (record { result = over.result; made = over.made; at_least = end.crossed }) }

root-below : (d e r s : Pair) → IsBelow d e → IsRoot533 d r → IsRoot533 e s → IsBelow r s
root-below d e r s p mr ms =
    let raised : IsBelow mr.raised ms.raised = power-below d e mr.raised ms.raised 533 533 refl p mr.made ms.made in
    record {
      low = root_down-below mr.raised.lo ms.raised.lo r.lo s.lo raised.low mr.low ms.low;
      high = root_up-below mr.raised.hi ms.raised.hi r.hi s.hi raised.high mr.high ms.high;
    }

-- ---- the chains

minor-below : (diameter k : Decimal) (us : Bool) (r s : Pair) → IsMinorPair diameter k us r
    → IsMinorPair diameter k us s → IsBelow r s
minor-below diameter k us r s mr ms =
    quotient-below mr.scaled mr.fourth r ms.scaled ms.fourth s mr.minor_is ms.minor_is
    (product-below mr.factor mr.coefficient mr.scaled ms.factor ms.coefficient ms.scaled mr.scaled_is ms.scaled_is
    (ratio-below _ _ mr.factor ms.factor mr.factor_is ms.factor_is) (ratio-below _ _ mr.coefficient ms.coefficient
    mr.coefficient_is ms.coefficient_is))
    (power-below ms.across mr.across ms.fourth mr.fourth 4 4 refl (ratio-below _ _ ms.across mr.across ms.across_is
    mr.across_is) ms.fourth_is mr.fourth_is)

friction-below : (length diameter roughness : Decimal) (us : Bool) (r s : Pair)
    → IsFrictionPair length diameter roughness us r → IsFrictionPair length diameter roughness us s → IsBelow r s
friction-below length diameter roughness us r s mr ms =
    let rough : IsBelow mr.rough ms.rough = ratio-below _ _ mr.rough ms.rough mr.rough_is ms.rough_is in
    quotient-below mr.along mr.root r ms.along ms.root s mr.friction_is ms.friction_is
    (product-below mr.twice_rough mr.long mr.along ms.twice_rough ms.long ms.along mr.along_is ms.along_is
    (product-below mr.once_rough mr.rough mr.twice_rough ms.once_rough ms.rough ms.twice_rough mr.twice_rough_is
    ms.twice_rough_is
    (product-below mr.factor mr.rough mr.once_rough ms.factor ms.rough ms.once_rough mr.once_rough_is ms.once_rough_is
    (ratio-below _ _ mr.factor ms.factor mr.factor_is ms.factor_is) rough)
    rough)
    (ratio-below _ _ mr.long ms.long mr.long_is ms.long_is))
    (root-below ms.across mr.across ms.root mr.root (ratio-below _ _ ms.across mr.across ms.across_is mr.across_is)
    ms.root_is mr.root_is)

unit-below : (lost other r s : Pair) → IsBelow other lost → IsUnitOver lost r → IsUnitOver other s → IsBelow r s
unit-below lost other r s p mr ms =
    quotient-below mr.unit lost r ms.unit other s mr.capacity_is ms.capacity_is
    (ratio-below _ _ mr.unit ms.unit mr.unit_is ms.unit_is) p

square-below : (f h r g i s : Pair) → IsBelow f g → IsBelow i h → IsSquareOver f h r → IsSquareOver g i s → IsBelow r s
square-below f h r g i s p q mr ms =
    quotient-below mr.square h r ms.square i s mr.capacity_is ms.capacity_is
    (product-below f f mr.square g g ms.square mr.square_is ms.square_is p p) q

pipe-below : (v : ℕ) (length diameter roughness minor : Decimal) (us : Bool) (r s : Pair)
    → IsPipePairWith v length diameter roughness minor us r → IsPipePairWith v length diameter roughness minor us s
    → IsBelow r s
pipe-below zero length diameter roughness minor us r s mr ms =
    unit-below mr.friction ms.friction r s (friction-below length diameter roughness us ms.friction mr.friction
    ms.friction_is mr.friction_is) mr.capacity_is ms.capacity_is
pipe-below (suc v) length diameter roughness minor us r s mr ms =
    unit-below mr.lost ms.lost r s
    (sum-below ms.friction ms.fittings ms.lost mr.friction mr.fittings mr.lost ms.lost_is mr.lost_is
    (friction-below length diameter roughness us ms.friction mr.friction ms.friction_is mr.friction_is)
    (minor-below diameter minor us ms.fittings mr.fittings ms.fittings_is mr.fittings_is))
    mr.capacity_is ms.capacity_is

-- of two pairs that one origin stands for, neither is above the other
pub StandsFor-below : (origin : Origin) (r s : Pair) → StandsFor origin r → StandsFor origin s → IsBelow r s
StandsFor-below (Pipe us length diameter roughness minor) r s mr ms = pipe-below (billionths minor) length diameter
    roughness minor us r s mr ms
StandsFor-below (Valve diameter k us) r s mr ms =
    unit-below mr.lost ms.lost r s (minor-below diameter k us ms.lost mr.lost ms.lost_is mr.lost_is) mr.capacity_is
    ms.capacity_is
StandsFor-below (Pump flow drop thirds unit) r s mr ms =
    square-below mr.flows mr.head r ms.flows ms.head s (ratio-below _ _ mr.flows ms.flows mr.flows_is ms.flows_is)
    (ratio-below _ _ ms.head mr.head ms.head_is mr.head_is) mr.capacity_is ms.capacity_is
StandsFor-below (Emitter coefficient unit) r s mr ms =
    square-below mr.flows mr.head r ms.flows ms.head s (ratio-below _ _ mr.flows ms.flows mr.flows_is ms.flows_is)
    (ratio-below _ _ ms.head mr.head ms.head_is mr.head_is) mr.capacity_is ms.capacity_is
StandsFor-below (PressureDemand demand minimum required us) r s mr ms =
    square-below mr.flows mr.head r ms.flows ms.head s (ratio-below _ _ mr.flows ms.flows mr.flows_is ms.flows_is)
    (ratio-below _ _ ms.head mr.head ms.head_is mr.head_is) mr.capacity_is ms.capacity_is
