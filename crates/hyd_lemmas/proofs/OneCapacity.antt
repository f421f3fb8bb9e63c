-- Given numbers have one capacity: a number that is rounded to 63 bits has one mantissa and one exponent.
use Rattle.std.proofs.Common.{◌≡◌, ◌*◌, ◌^◌, ◌<◌, ◌≤◌, sym, subst, ◌∙◌}
use Rattle.std.specs.Coded.{le_prop}
use Rattle.hyd_num.specs.declared.binary.Scaled.{Scaled}
use Rattle.hyd_num.specs.BinaryNumbers.{numerator, denominator}
use Rattle.hyd_num.specs.CapacityPairs.{IsMade, StandsFor}
use Rattle.hyd_spec.specs.ProgramTypes.{Capacity, Origin}
use Rattle.hyd_lemmas.proofs.OnePair.{StandsFor-below}
use Rattle.hyd_lemmas.proofs.OneBinaryNumber.{one-scaled}

-- ---- capacities

ends-same : (a b : Capacity) (m : IsMade a) (n : IsMade b) → a.origin ≡ b.origin → (a.lo ≡ b.lo) × (a.hi ≡ b.hi)
ends-same a b m n same =
    let other : StandsFor a.origin n.pair = subst (λ (o : Origin). StandsFor o n.pair) (sym same) n.made in
    let forth = StandsFor-below a.origin m.pair n.pair m.made other in
    let back = StandsFor-below a.origin n.pair m.pair other m.made in (
      sym m.low ∙ (one-scaled m.pair.lo n.pair.lo forth.low back.low ∙ n.low),
      sym m.high ∙ (one-scaled m.pair.hi n.pair.hi forth.high back.high ∙ n.high),
    )

pub same-capacity : (a b : Capacity) → a.lo ≡ b.lo → a.hi ≡ b.hi → a.origin ≡ b.origin → a ≡ b
same-capacity a b l h o =
    let Ordered : Scaled → Scaled → Type 0 = λ lo hi. numerator lo * denominator hi ≤ numerator hi * denominator lo in
    let Least : Scaled → Type 0 = λ lo. denominator lo ≤ numerator lo * 2 ^ 61 in
    let Greatest : Scaled → Type 0 = λ hi. numerator hi < 2 ^ 66 * denominator hi in
    let ByLo : Scaled → Type 0 = λ lo. (p : Ordered lo b.hi) (q : Least lo) (r : Greatest b.hi)
    → a ≡ record { lo = lo; hi = b.hi; origin = b.origin; ordered = p; least = q; greatest = r } in
    let ByHi : Scaled → Type 0 = λ hi. (p : Ordered a.lo hi) (q : Least a.lo) (r : Greatest hi)
    → a ≡ record { lo = a.lo; hi = hi; origin = b.origin; ordered = p; least = q; greatest = r } in
    let proofs : (p : Ordered a.lo a.hi) (q : Least a.lo) (r : Greatest a.hi)
    → a ≡ record { lo = a.lo; hi = a.hi; origin = b.origin; ordered = p; least = q; greatest = r } =
    λ p q r i. record {
      lo = a.lo;
      hi = a.hi;
      origin = o i;
      ordered = le_prop a.ordered p i;
      least = le_prop a.least q i;
      greatest = le_prop a.greatest r i;
    } in
    subst ByLo l (subst ByHi h proofs) b.ordered b.least b.greatest

pub one_capacity : (a b : Capacity) → a.origin ≡ b.origin → IsMade a → IsMade b → a ≡ b
one_capacity a b same m n = let ends = ends-same a b m n same in same-capacity a b ends.0 ends.1 same
