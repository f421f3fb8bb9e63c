-- A capacity that stands for the numbers of a file is as sharp as is promised.
use Rattle.std.proofs.Common.{◌≡◌, ℕ, zero, suc, ◌+◌, ◌*◌, ◌^◌, ◌<◌, ◌≤◌, Bool, subst, arith, mul-pos, lit≤}
use Rattle.hyd_num.specs.declared.binary.Scaled.{Scaled}
use Rattle.hyd_num.specs.declared.pairs.Pair.{Pair}
use Rattle.hyd_num.specs.declared.decimals.Decimal.{Decimal}
use Rattle.hyd_num.specs.BinaryNumbers.{numerator, denominator, IsUp}
use Rattle.hyd_num.specs.FileQuantity.{billionths}
use Rattle.hyd_num.specs.Pairs.{IsRatio}
use Rattle.hyd_num.specs.CapacityPairs.{StandsFor, IsMade, IsMinorPair, IsFrictionPair, IsPipePairWith, IsUnitOver}
use Rattle.hyd_num.specs.CapacityPairs.{IsSquareOver}
use Rattle.hyd_spec.specs.ProgramTypes.{Origin, Pipe, Valve, Pump, Emitter, PressureDemand, Capacity}
use Rattle.hyd_spec.specs.CapacityEnclosure.{IsSharp}
use Rattle.hyd_num.proofs.EndsInOrder.{denominator_positive}
use Rattle.hyd_lemmas.proofs.PumpEmitterAndDemandPairs.{ratio-above}
use Rattle.hyd_lemmas.proofs.PairWidths.{IsNear, high, low, ratio-near, product-near, quotient-near, sum-near}
use Rattle.hyd_lemmas.proofs.PairWidths.{power-near}
use Rattle.hyd_lemmas.proofs.PairWidths.{wider, near-sharp}
use Rattle.hyd_lemmas.proofs.RootWidths.{root-near}

pub some_factor : (p q : ℕ) (s : Scaled) → 0 < p → IsUp p q s → 0 < q
some_factor p zero s above made = absurd (nothing_left p (denominator s) above (denominator_positive s)
    (omega (arith, made.at_least)))
  where
    nothing_left : (n d : ℕ) → 0 < n → 0 < d → n * d ≤ 0 → ⊥
    nothing_left n d some more h = omega (arith, mul-pos some more, h)
some_factor p (suc q) s above made = omega arith

-- a pair that a fraction is rounded to
fraction-near : (p q : ℕ) (r : Pair) → IsRatio p q r → IsNear 4 r
fraction-near p q r made =
    let some : 0 < p = ratio-above p q r made in
    ratio-near p q r some (some_factor p q r.hi some made.high) made

minor-near : (diameter k : Decimal) (us : Bool) (r : Pair) → IsMinorPair diameter k us r → IsNear 24 r
minor-near diameter k us r made =
    quotient-near made.scaled made.fourth r 8 16 made.minor_is
    (product-near made.factor made.coefficient made.scaled 4 4 made.scaled_is
    (fraction-near _ _ made.factor made.factor_is) (fraction-near _ _ made.coefficient made.coefficient_is))
    (power-near made.across made.fourth 4 4 (fraction-near _ _ made.across made.across_is) made.fourth_is)

unit-near : (lost r : Pair) (w : ℕ) → IsUnitOver lost r → IsNear w lost → IsNear (4 + w) r
unit-near lost r w made near =
    quotient-near made.unit lost r 4 w made.capacity_is (fraction-near _ _ made.unit made.unit_is) near

square-near : (flow head r : Pair) → IsSquareOver flow head r → IsNear 4 flow → IsNear 4 head → IsNear 12 r
square-near flow head r made nf nh =
    quotient-near made.square head r 8 4 made.capacity_is (product-near flow flow made.square 4 4 made.square_is nf
    nf) nh

friction-near : (length diameter roughness : Decimal) (us : Bool) (r : Pair)
    → IsFrictionPair length diameter roughness us r → IsNear 46 r
friction-near length diameter roughness us r made =
    let across : IsNear 4 made.across = fraction-near _ _ made.across made.across_is in
    let rough : IsNear 4 made.rough = fraction-near _ _ made.rough made.rough_is in
    quotient-near made.along made.root r 16 30 made.friction_is
    (product-near made.twice_rough made.long made.along 12 4 made.along_is
    (product-near made.once_rough made.rough made.twice_rough 8 4 made.twice_rough_is
    (product-near made.factor made.rough made.once_rough 4 4 made.once_rough_is
    (fraction-near _ _ made.factor made.factor_is) rough)
    rough)
    (fraction-near _ _ made.long made.long_is))
    (root-near made.across made.root across made.root_is)

pipe-sharp : (v : ℕ) (length diameter roughness minor : Decimal) (us : Bool) (r : Pair)
    → IsPipePairWith v length diameter roughness minor us r
    → high r * 2 ^ 40 ≤ low r * (2 ^ 40 + 1)
pipe-sharp zero length diameter roughness minor us r made =
    near-sharp 50 r (lit≤ tt) (unit-near made.friction r 46 made.capacity_is
    (friction-near length diameter roughness us made.friction made.friction_is))
pipe-sharp (suc v) length diameter roughness minor us r made =
    near-sharp 52 r (lit≤ tt) (unit-near made.lost r 48 made.capacity_is
    (sum-near made.friction made.fittings made.lost 46 made.lost_is
    (friction-near length diameter roughness us made.friction made.friction_is)
    (wider 24 22 made.fittings (minor-near diameter minor us made.fittings made.fittings_is))))

pub pair-sharp : (origin : Origin) (r : Pair) → StandsFor origin r → high r * 2 ^ 40 ≤ low r * (2 ^ 40 + 1)
pair-sharp (Pipe us length diameter roughness minor) r made = pipe-sharp (billionths minor) length diameter roughness
    minor us r made
pair-sharp (Valve diameter k us) r made =
    near-sharp 28 r (lit≤ tt) (unit-near made.lost r 24 made.capacity_is
    (minor-near diameter k us made.lost made.lost_is))
pair-sharp (Pump flow drop thirds unit) r made =
    near-sharp 12 r (lit≤ tt) (square-near made.flows made.head r made.capacity_is
    (fraction-near _ _ made.flows made.flows_is) (fraction-near _ _ made.head made.head_is))
pair-sharp (Emitter coefficient unit) r made =
    near-sharp 12 r (lit≤ tt) (square-near made.flows made.head r made.capacity_is
    (fraction-near _ _ made.flows made.flows_is) (fraction-near _ _ made.head made.head_is))
pair-sharp (PressureDemand demand minimum required us) r made =
    near-sharp 12 r (lit≤ tt) (square-near made.flows made.head r made.capacity_is
    (fraction-near _ _ made.flows made.flows_is) (fraction-near _ _ made.head made.head_is))

pub IsSharp-made : (c : Capacity) → IsMade c → IsSharp c
IsSharp-made c made =
    let ends : (lo hi : Scaled) → made.pair.lo ≡ lo → made.pair.hi ≡ hi → (numerator hi * denominator lo) * 2 ^ 40
    ≤ (numerator lo * denominator hi) * (2 ^ 40 + 1) =
    λ lo hi e f. subst (λ (s : Scaled). (numerator hi * denominator s) * 2 ^ 40 ≤ (numerator s * denominator hi)
    * (2 ^ 40 + 1)) e
    (subst (λ (s : Scaled). (numerator s * denominator made.pair.lo) * 2 ^ 40
    ≤ (numerator made.pair.lo * denominator s) * (2 ^ 40 + 1)) f
    (pair-sharp c.origin made.pair made.made)) in
    ends c.lo c.hi made.low made.high
