-- The laws of capacities, of valves without loss coefficient, and of every sound law.
use Rattle.std.proofs.Common.{◌≡◌, ℕ, zero, suc, ◌*◌, ◌^◌, ◌<◌, ℤ, pos, negsuc, List, ◌-ℤ◌, ◌*ℤ◌, ◌≤ℤ◌, refl, arith}
use Rattle.std.proofs.lemmas.Int.{ints}
use Rattle.hyd_num.specs.BinaryNumbers.{numerator, denominator}
use Rattle.hyd_num.specs.Rational.{Rational, floor, ceiling}
use Rattle.hyd_num.proofs.Integers.{times_rises, times_reflects}
use Rattle.hyd_num.specs.CapacityPairs.{IsMade, StandsFor, IsFrictionPair, IsPipePairWith}
use Rattle.hyd_num.specs.declared.decimals.Decimal.{Decimal}
use Rattle.hyd_num.specs.declared.pairs.Pair.{Pair}
use Rattle.hyd_num.specs.FileQuantity.{billionths, feet, feet_across, is_us_unit, head_ticks, pressure_fraction}
use borrow.Author.Differences.{up}
use Rattle.std.specs.Prelude.{Bool, true, false, unsigned_abs}
use Rattle.hyd_net.specs.Curves.{Knot, value_at}
use Rattle.hyd_num.proofs.EndsInOrder.{denominator_positive, numerator_positive}
use Rattle.hyd_lemmas.proofs.CapacitiesEnclose.{IsEnclosure-made}
use Rattle.hyd_lemmas.proofs.PumpEmitterAndDemandPairs.{ratio-above}
use Rattle.hyd_spec.specs.ProgramTypes.{Capacity, Origin, Pipe, Valve, Pump, Emitter, PressureDemand}
use Rattle.hyd_spec_certificates.specs.EnclosingFunctions.{quadratic_low, quadratic_high, low, high}
use Rattle.hyd_spec.specs.Law.{Law, Shut, QuadraticLaw, LinearLaw, Lifted, ForwardOnly, ReverseOnly, Capped, Bent, Held}
use Rattle.hyd_spec.specs.Law.{PowerLaw}
use Rattle.hyd_spec.specs.Law.{odd_at_least, odd_at_most, flow_at_least, flow_at_most, loss_at_most, loss_at_least}
use Rattle.hyd_theorems_on_definitions.specs.SoundLawsAndGrids.{IsLaw, IsSoundCapacity, IsSoundLaw, AreInOrder}
use Rattle.hyd_theorems_on_definitions.specs.SoundLawsAndGrids.{HasPositiveNumbers}
use Rattle.hyd_lemmas.proofs.Integers.{exchanged, floor_low, ceiling_high, floor_greatest, ceiling_least}
use Rattle.hyd_lemmas.proofs.Integers.{floor_at_most_ceiling}
use Rattle.hyd_theorems_on_definitions.proofs.LossLaws.{IsLossLaw-origin}
use Rattle.hyd_theorems_on_definitions.proofs.PipeLaws.{IsLaw-power}
use Rattle.hyd_theorems_on_definitions.proofs.ValuesAtTwoScales.{Leads, raised, lowered, above-too, below-too}
use Rattle.hyd_theorems_on_definitions.proofs.RisingLines.{value-den, value-rises}
use Rattle.hyd_theorems_on_definitions.proofs.LinkLaws.{IsLaw-shut, IsLaw-forward, IsLaw-reverse, IsLaw-capped}
use Rattle.hyd_theorems_on_definitions.proofs.LinkLaws.{IsLaw-held, IsLaw-lifted, odd-consistent, odd-downward}
use Rattle.hyd_theorems_on_definitions.proofs.LinkLaws.{odd-upward, quad-below, quad-above, low-rises, high-rises}
use Rattle.hyd_theorems_on_definitions.proofs.LinkLaws.{roots-ordered, roots_low, roots_high}

pub low_is : (c : Capacity) (d : ℤ) → quadratic_low c d ≡ roots_low (numerator c.lo) (denominator c.lo)
    (numerator c.hi) (denominator c.hi) d
low_is c (pos d) = refl
low_is c (negsuc d) = refl

pub high_is : (c : Capacity) (d : ℤ) → quadratic_high c d ≡ roots_high (numerator c.lo) (denominator c.lo)
    (numerator c.hi) (denominator c.hi) d
high_is c (pos d) = refl
high_is c (negsuc d) = refl

pub IsLaw-quad : (c : Capacity) → IsSoundCapacity c
    → IsLaw (odd_at_least (loss_at_most c.origin) (loss_at_least c.origin))
    (odd_at_most (loss_at_most c.origin) (loss_at_least c.origin)) (quadratic_low c) (quadratic_high c)
IsLaw-quad c sound = record {
  low_rises = λ x d le. rw (low_is c x, low_is c d) (low-rises (numerator c.lo) (denominator c.lo) (numerator c.hi)
      (denominator c.hi) (denominator_positive c.lo) (denominator_positive c.hi) x d le);
  high_rises = λ x d le. rw (high_is c x, high_is c d) (high-rises (numerator c.lo) (denominator c.lo)
      (numerator c.hi) (denominator c.hi) (denominator_positive c.lo) (denominator_positive c.hi) x d le);
  ordered = λ d. rw (low_is c d, high_is c d) (roots-ordered (numerator c.lo) (denominator c.lo) (numerator c.hi)
      (denominator c.hi) (denominator_positive c.lo) (denominator_positive c.hi) c.ordered d);
  encloses_below = λ S d x some le. rw (low_is c d)
      (quad-below (loss_at_most c.origin) (loss_at_least c.origin) (numerator c.lo) (denominator c.lo)
      (numerator c.hi) (denominator c.hi)
      (denominator_positive c.lo) (numerator_positive c.hi) (denominator_positive c.hi) sound.enclosure.at_most
      sound.enclosure.at_least S d x some le);
  encloses_above = λ S d x some le. rw (high_is c d)
      (quad-above (loss_at_most c.origin) (loss_at_least c.origin) (numerator c.lo) (denominator c.lo)
      (numerator c.hi) (denominator c.hi)
      (denominator_positive c.lo) (denominator_positive c.hi) sound.enclosure.at_most sound.enclosure.at_least S d x
      some le);
  consistent = odd-consistent (loss_at_most c.origin) (loss_at_least c.origin)
      (IsLossLaw-origin c.origin sound.numbers);
  downward = odd-downward (loss_at_most c.origin) (loss_at_least c.origin) (IsLossLaw-origin c.origin sound.numbers);
  upward = odd-upward (loss_at_most c.origin) (loss_at_least c.origin) (IsLossLaw-origin c.origin sound.numbers);
}

-- ---- the valve without loss coefficient, which passes g / k ticks for a head tick

abbrev passed : ℕ → ℕ → ℤ → Rational
passed g k d = record { num = pos g *ℤ d; den = k }

passed-rises : (g k : ℕ) (c d : ℤ) → 0 < k → c ≤ℤ d → floor (passed g k c) ≤ℤ floor (passed g k d)
passed-rises g k c d above le = floor_greatest (passed g k d) (floor (passed g k c)) above
    (let a = floor_low (passed g k c) above in let b = times_rises g c d le in omega (arith, ints, a, b))

passed_up-rises : (g k : ℕ) (c d : ℤ) → 0 < k → c ≤ℤ d → ceiling (passed g k c) ≤ℤ ceiling (passed g k d)
passed_up-rises g k c d above le = ceiling_least (passed g k c) (ceiling (passed g k d)) above
    (let a = ceiling_high (passed g k d) above in let b = times_rises g c d le in omega (arith, ints, a, b))

passed-below : (g k S : ℕ) (d x : ℤ) → 0 < k → (pos S *ℤ d) ≤ℤ x → (pos k *ℤ (pos S *ℤ floor (passed g k d)))
    ≤ℤ (pos g *ℤ x)
passed-below g k S d x above le =
    let a = times_rises S (pos k *ℤ floor (passed g k d)) (pos g *ℤ d) (floor_low (passed g k d) above) in
    let b = times_rises g (pos S *ℤ d) x le in
    omega (arith, ints, a, b, exchanged S k (floor (passed g k d)), exchanged S g d)

passed-above : (g k S : ℕ) (d x : ℤ) → 0 < k → x ≤ℤ (pos S *ℤ d)
    → (pos g *ℤ x) ≤ℤ (pos k *ℤ (pos S *ℤ ceiling (passed g k d)))
passed-above g k S d x above le =
    let a = times_rises S (pos g *ℤ d) (pos k *ℤ ceiling (passed g k d)) (ceiling_high (passed g k d) above) in
    let b = times_rises g x (pos S *ℤ d) le in
    omega (arith, ints, a, b, exchanged S k (ceiling (passed g k d)), exchanged S g d)

IsLaw-passed : (g k : ℕ) → 0 < k → IsLaw (λ S x a. (pos k *ℤ a) ≤ℤ (pos g *ℤ x))
    (λ S x a. (pos g *ℤ x) ≤ℤ (pos k *ℤ a)) (λ d. floor (passed g k d)) (λ d. ceiling (passed g k d))
IsLaw-passed g k above = record {
  low_rises = λ c d le. passed-rises g k c d above le;
  high_rises = λ c d le. passed_up-rises g k c d above le;
  ordered = λ d. floor_at_most_ceiling (passed g k d) above;
  encloses_below = λ S d x some le. passed-below g k S d x above le;
  encloses_above = λ S d x some le. passed-above g k S d x above le;
  consistent = λ S x a b some least most. times_reflects k a b above (let l : (pos k *ℤ a) ≤ℤ (pos k *ℤ b) =
      omega (arith, ints, least, most) in l);
  downward = λ S x a b some le least. let l = times_rises k b a le in omega (arith, ints, l, least);
  upward = λ S x a b some le most. let l = times_rises k a b le in omega (arith, ints, l, most);
}

pub IsLaw-straight : IsLaw (flow_at_least LinearLaw) (flow_at_most LinearLaw) (low LinearLaw) (high LinearLaw)
IsLaw-straight = IsLaw-passed 8026822656 (10 ^ 6) (omega arith)

-- ---- straight lines between knots

pub IsLaw-bent : (knots : List Knot) → AreInOrder knots → IsLaw (flow_at_least (Bent knots))
    (flow_at_most (Bent knots)) (low (Bent knots)) (high (Bent knots))
IsLaw-bent knots order = record {
  low_rises = λ c d le. floor_greatest (F d) (floor (F c)) (above d) (above-too (floor (F c)) (F c) (F d) (above c)
      (level c d le) (floor_low (F c) (above c)));
  high_rises = λ c d le. ceiling_least (F c) (ceiling (F d)) (above c)
      (below-too (ceiling (F d)) (F c) (F d) (above d) (level c d le) (ceiling_high (F d) (above d)));
  ordered = λ d. floor_at_most_ceiling (F d) (above d);
  encloses_below = λ S d x some le. raised S (floor (F d)) (F d) (value_at S knots x) (above d) (under S d x le)
      (floor_low (F d) (above d));
  encloses_above = λ S d x some le. lowered S (ceiling (F d)) (F d) (value_at S knots x) (above d)
      (over S d x some le) (ceiling_high (F d) (above d));
  consistent = λ S x a b some least most. times_reflects (value_at S knots x).den a b (value-den S knots x)
      (let l : (pos (value_at S knots x).den *ℤ a) ≤ℤ (pos (value_at S knots x).den *ℤ b) =
      omega (arith, ints, least, most) in l);
  downward = λ S x a b some le least. let l = times_rises (value_at S knots x).den b a le in
      omega (arith, ints, l, least);
  upward = λ S x a b some le most. let l = times_rises (value_at S knots x).den a b le in omega (arith, ints, l, most);
}
  where
    F : ℤ → Rational
    F d = value_at 1 knots d

    above : (d : ℤ) → 0 < (value_at 1 knots d).den
    above d = value-den 1 knots d

    level : (c d : ℤ) → c ≤ℤ d → Leads 1 1 (value_at 1 knots c) (value_at 1 knots d)
    level c d le = value-rises 1 1 knots c d (omega arith) order (let l : (pos 1 *ℤ c) ≤ℤ (pos 1 *ℤ d) =
        omega (arith, ints, le) in l)

    under : (S : ℕ) (d x : ℤ) → (pos S *ℤ d) ≤ℤ x → Leads 1 S (value_at 1 knots d) (value_at S knots x)
    under S d x le = value-rises 1 S knots d x (omega arith) order (let l : (pos S *ℤ d) ≤ℤ (pos 1 *ℤ x) =
        omega (arith, ints, le) in l)

    over : (S : ℕ) (d x : ℤ) → 0 < S → x ≤ℤ (pos S *ℤ d) → Leads S 1 (value_at S knots x) (value_at 1 knots d)
    over S d x some le = value-rises S 1 knots x d some order (let l : (pos 1 *ℤ x) ≤ℤ (pos S *ℤ d) =
        omega (arith, ints, le) in l)

-- every sound law
pub IsLaw-each : (law : Law) → IsSoundLaw law → IsLaw (flow_at_least law) (flow_at_most law) (low law) (high law)
IsLaw-each Shut sound = IsLaw-shut
IsLaw-each (QuadraticLaw capacity) sound = IsLaw-quad capacity sound
IsLaw-each (PowerLaw capacity) sound = IsLaw-power capacity sound
IsLaw-each LinearLaw sound = IsLaw-straight
IsLaw-each (Lifted lift law) sound = IsLaw-lifted lift (flow_at_least law) (flow_at_most law) (low law) (high law)
    sound.0 (IsLaw-each law sound.1)
IsLaw-each (ForwardOnly law) sound = IsLaw-forward (flow_at_least law) (flow_at_most law) (low law) (high law)
    (IsLaw-each law sound)
IsLaw-each (ReverseOnly law) sound = IsLaw-reverse (flow_at_least law) (flow_at_most law) (low law) (high law)
    (IsLaw-each law sound)
IsLaw-each (Capped setting law) sound = IsLaw-capped setting (flow_at_least law) (flow_at_most law) (low law)
    (high law) (IsLaw-each law sound)
IsLaw-each (Bent knots) sound = IsLaw-bent knots sound
IsLaw-each (Held least greatest law) sound = IsLaw-held least greatest (flow_at_least law) (flow_at_most law)
    (low law) (high law) sound.0 (IsLaw-each law sound.1)

-- ---- capacities that are made of a file's numbers

length-above : (us : Bool) (v : ℕ) → 0 < (feet us v).num → 0 < v
length-above true v h = h
length-above false v h = let l : 0 < 10 ^ 4 * v = h in omega (arith, l)

width-above : (us : Bool) (v : ℕ) → 0 < (feet_across us v).num → 0 < v
width-above true v h = h
width-above false v h = let l : 0 < 10 * v = h in omega (arith, l)

drop-above : (us : Bool) (z : ℤ) → 0 < up (head_ticks us z) → 0 < unsigned_abs z
drop-above us (pos zero) h = absurd (no_drop us h)
  where
    no_drop : (us : Bool) → 0 < up (head_ticks us (pos 0)) → ⊥
    no_drop true h = absurd (omega arith)
    no_drop false h = absurd (omega arith)
drop-above us (pos (suc n)) h = omega arith
drop-above us (negsuc n) h = omega arith

pressure-some : (us : Bool) (z : ℤ) → 0 < (pressure_fraction us (up z)).num → 0 < unsigned_abs z
pressure-some us (pos zero) h = absurd (no_gap us h)
  where
    no_gap : (us : Bool) → 0 < (pressure_fraction us 0).num → ⊥
    no_gap true h = absurd (omega arith)
    no_gap false h = absurd (omega arith)
pressure-some us (pos (suc n)) h = omega arith
pressure-some us (negsuc n) h = omega arith

friction-numbers : (length diameter roughness : Decimal) (us : Bool) (r : Pair)
    → IsFrictionPair length diameter roughness us r
    → (0 < billionths length) × ((0 < billionths diameter) × (0 < billionths roughness))
friction-numbers length diameter roughness us r made = (
  length-above us (billionths length) (ratio-above _ _ made.long made.long_is),
  (
    width-above us (billionths diameter) (ratio-above _ _ made.across made.across_is),
    ratio-above _ _ made.rough
        made.rough_is,
  ),
)

pipe-numbers : (minors : ℕ) (length diameter roughness minor : Decimal) (us : Bool) (r : Pair)
    → IsPipePairWith minors length diameter roughness minor us r
    → (0 < billionths length) × ((0 < billionths diameter) × (0 < billionths roughness))
pipe-numbers zero length diameter roughness minor us r made = friction-numbers length diameter roughness us
    made.friction made.friction_is
pipe-numbers (suc k) length diameter roughness minor us r made = friction-numbers length diameter roughness us
    made.friction made.friction_is

numbers-made : (origin : Origin) (r : Pair) → StandsFor origin r → HasPositiveNumbers origin
numbers-made (Pipe us length diameter roughness minor) r made = pipe-numbers (billionths minor) length diameter
    roughness minor us r made
numbers-made (Valve diameter k us) r made = (
  width-above us (billionths diameter) (ratio-above _ _ made.lost_is.across made.lost_is.across_is),
  ratio-above _
      _ made.lost_is.coefficient made.lost_is.coefficient_is,
)
numbers-made (Pump flow drop thirds unit) r made = drop-above (is_us_unit unit) drop.nano
    (ratio-above _ _ made.head made.head_is)
numbers-made (Emitter coefficient unit) r made = tt
numbers-made (PressureDemand demand minimum required us) r made = pressure-some us (required.nano -ℤ minimum.nano)
    (ratio-above _ _ made.head made.head_is)

pub IsSoundCapacity-made : (c : Capacity) → IsMade c → IsSoundCapacity c
IsSoundCapacity-made c made = record {
  enclosure = IsEnclosure-made c made;
  numbers = numbers-made c.origin made.pair made.made;
}
