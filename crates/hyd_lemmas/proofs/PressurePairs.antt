-- The pair of a pressure-driven demand, and that it is in range.
use Rattle.std.proofs.Common.{◌≡◌, ℕ, ◌*◌, ◌^◌, ◌<◌, ◌≤◌, ℤ, pos, negsuc, ◌+ℤ◌, ◌-ℤ◌, ◌≤ℤ◌, unsigned_abs, Bool, true}
use Rattle.std.proofs.Common.{false, refl, subst, arith, lit<, lit≤}
use Rattle.std.proofs.Math.Nat.{mul-le-mul_right, mul-le-mul_left}
use Rattle.std.proofs.lemmas.Nat.{mul-le}
use Rattle.std.proofs.lemmas.Int.{ints}
use borrow.Author.Differences.{up, down}
use Rattle.hyd_num.specs.declared.binary.Scaled.{Scaled}
use Rattle.hyd_num.specs.declared.pairs.Pair.{Pair}
use Rattle.hyd_num.specs.declared.decimals.Decimal.{Decimal}
use Rattle.hyd_num.specs.FileQuantity.{billionths, pressure_fraction}
use Rattle.hyd_num.specs.Fraction.{AtMost, whole}
use Rattle.hyd_num.specs.BinaryNumbers.{numerator, denominator, IsDown, IsUp}
use Rattle.hyd_num.specs.Pairs.{IsRatio}
use Rattle.hyd_num.specs.CapacityPairs.{IsPairOf, IsSquareOver, IsPressurePair, IsMade}
use Rattle.hyd_num.specs.declared.link_capacities.Capacity.{Capacity}
use Rattle.hyd_num.specs.declared.link_capacities.Origin.TheVariants.{PressureDemand}
use Rattle.hyd_num.proofs.EndsInOrder.{denominator_positive}
use Rattle.hyd_lemmas.proofs.PairProducts.{product_of}
use Rattle.hyd_lemmas.proofs.PairRatios.{ratio_of, quotient_of}

pub pressure_pair : (demand : ℤ) (minimum required : Decimal) (us : Bool) (n m : ℕ) (flows head r : Pair)
    → n ≡ up demand → m ≡ up (required.nano -ℤ minimum.nano) → IsRatio n 1 flows
    → IsPairOf (pressure_fraction us m) head → IsSquareOver flows head r
    → IsPressurePair demand minimum required us r
pressure_pair demand minimum required us n m flows head r en em by_flow by_head made = record {
  flows = flows;
  flows_is = subst (λ (x : ℕ). IsRatio x 1 flows) en by_flow;
  head = head;
  head_is = subst (λ (x : ℕ). IsPairOf (pressure_fraction us x) head) em by_head;
  capacity_is = made;
}

-- a power of two
at_exponent : ℤ → Scaled
at_exponent e = record { mant = 2 ^ 62; exp = e; normal = lit≤ tt; short = lit< tt }

flow_from : (d : ℕ) (s : Scaled) → 1 ≤ d → IsDown d 1 s → denominator s ≤ numerator s
unfolding at_exponent
flow_from d s least made =
    let l : 2 ^ 62 * denominator s ≤ numerator s * 2 ^ 62 = made.greatest (at_exponent (negsuc 61)) (omega arith) in
    omega (arith, l)

square_from : (n d : ℕ) (s : Scaled) → d ≤ n → IsDown (n * n) (d * d) s → denominator s ≤ numerator s
unfolding at_exponent
square_from n d s least made =
    let l : 2 ^ 62 * denominator s ≤ numerator s * 2 ^ 62 = made.greatest (at_exponent (negsuc 61))
    (omega (arith, mul-le d d n n least least)) in
    omega (arith, l)

head_to : (p q : ℕ) (s : Scaled) → p ≤ 10 ^ 17 * q → IsUp p q s → numerator s ≤ 2 ^ 57 * denominator s
unfolding at_exponent
head_to p q s most made =
    let l : numerator s * 2 ^ 5 ≤ 2 ^ 62 * denominator s = made.least (at_exponent (negsuc 4)) (omega (arith, most)) in
    omega (arith, l)

capacity_from : (a b c d : ℕ) (s : Scaled) → b ≤ a → c ≤ 2 ^ 57 * d → IsDown (a * d) (b * c) s
    → denominator s ≤ numerator s * 2 ^ 61
unfolding at_exponent
capacity_from a b c d s square head made =
    let l : 2 ^ 62 * denominator s ≤ numerator s * 2 ^ 123 = made.greatest (at_exponent (negsuc 122))
    (omega (arith, mul-le b c a (2 ^ 57 * d) square head)) in
    omega (arith, l)

flow_to : (d : ℕ) (s : Scaled) → d ≤ 10 ^ 15 → IsUp d 1 s → numerator s ≤ 2 ^ 50 * denominator s
unfolding at_exponent
flow_to d s most made =
    let l : numerator s * 2 ^ 12 ≤ 2 ^ 62 * denominator s = made.least (at_exponent (negsuc 11)) (omega arith) in
    omega (arith, l)

square_to : (n d : ℕ) (s : Scaled) → n ≤ 2 ^ 50 * d → IsUp (n * n) (d * d) s → numerator s ≤ 2 ^ 100 * denominator s
unfolding at_exponent
square_to n d s most made =
    let l : numerator s * 1 ≤ 2 ^ 100 * denominator s =
    made.least (at_exponent (pos 38)) (omega (arith, mul-le n n (2 ^ 50 * d) (2 ^ 50 * d) most most)) in
    omega (arith, l)

head_from : (p q : ℕ) (s : Scaled) → 2 ^ 39 * q ≤ p → IsDown p q s → 2 ^ 39 * denominator s ≤ numerator s
unfolding at_exponent
head_from p q s least made =
    let l : 2 ^ 62 * denominator s ≤ numerator s * 2 ^ 23 = made.greatest (at_exponent (negsuc 22))
    (omega (arith, least)) in
    omega (arith, l)

capacity_to : (a b c d : ℕ) (s : Scaled) → a ≤ 2 ^ 100 * b → 2 ^ 39 * d ≤ c → IsUp (a * d) (b * c) s
    → numerator s < 2 ^ 66 * denominator s
unfolding at_exponent
capacity_to a b c d s square head made =
    let m : a * d ≤ 2 ^ 100 * b * d = mul-le-mul_right d square in
    let n : b * (2 ^ 39 * d) ≤ b * c = mul-le-mul_left b head in
    let l : numerator s * 2 ≤ 2 ^ 62 * denominator s = made.least (at_exponent (negsuc 0)) (omega (arith, m, n)) in
    omega (arith, l, denominator_positive s)

nothing_below : (z : ℤ) → pos 0 ≤ℤ z → down z ≡ 0
nothing_below (pos n) above = refl
nothing_below (negsuc n) above = absurd (omega (arith, ints))

pub size_is : (z : ℤ) → pos 0 ≤ℤ z → unsigned_abs z ≡ up z
size_is (pos n) above = refl
size_is (negsuc n) above = absurd (omega (arith, ints))

-- the difference of the two pressures, in head ticks
difference_to : (minimum required : ℤ) → pos 0 ≤ℤ minimum → (minimum +ℤ pos (10 ^ 8)) ≤ℤ required
    → up (required -ℤ minimum) ≤ up required
difference_to minimum required least apart =
    omega (
      arith,
      ints,
      nothing_below minimum least,
      nothing_below required (omega (arith, ints)),
      nothing_below
          (required -ℤ minimum) (omega (arith, ints)),
    )

difference_from : (minimum required : ℤ) → (minimum +ℤ pos (10 ^ 8)) ≤ℤ required → 10 ^ 8 ≤ up (required -ℤ minimum)
difference_from minimum required apart = omega (arith, ints, nothing_below (required -ℤ minimum) (omega (arith, ints)))

differs_to : (us : Bool) (d v : ℕ) → d ≤ v
    → (pressure_fraction us v).num * 1 ≤ 10 ^ 17 * (pressure_fraction us v).den
    → (pressure_fraction us d).num ≤ 10 ^ 17 * (pressure_fraction us d).den
differs_to true d v le most = omega arith
differs_to false d v le most = omega arith

differs_from : (us : Bool) (d : ℕ) → 10 ^ 8 ≤ d → 2 ^ 39 * (pressure_fraction us d).den ≤ (pressure_fraction us d).num
differs_from true d least = omega arith
differs_from false d least = omega arith

demand_to : (z : ℤ) → pos 1 ≤ℤ z → z ≤ℤ pos (10 ^ 15) → up z ≤ 10 ^ 15
demand_to z least most = omega (arith, ints, nothing_below z (omega (arith, ints)))

-- in range: the demand is above 0, the minimum pressure at least 0, the required one a tenth of a unit above it, and
-- at most 10^17 head ticks
pub record IsInReach (demand : ℤ) (minimum required : Decimal) (us : Bool) : Type 0 where
  pub some : pos 1 ≤ℤ demand
  pub not_negative : pos 0 ≤ℤ minimum.nano
  pub apart : (minimum.nano +ℤ pos (10 ^ 8)) ≤ℤ required.nano
  pub at_most : AtMost (pressure_fraction us (billionths required)) (whole (10 ^ 17))

pub pressure-least : (demand : ℤ) (minimum required : Decimal) (us : Bool) (r : Pair)
    → IsInReach demand minimum required us
    → IsPressurePair demand minimum required us r → denominator r.lo ≤ numerator r.lo * 2 ^ 61
pressure-least demand minimum required us r are made =
    let least = are.some in
    let flow : denominator made.flows.lo ≤ numerator made.flows.lo = flow_from (up demand) made.flows.lo
    (omega (arith, ints, least)) made.flows_is.low in
    let square = square_from _ _ made.capacity_is.square.lo flow made.capacity_is.square_is.low in
    let size = differs_to us _ _ (difference_to minimum.nano required.nano are.not_negative are.apart)
    are.at_most.crossed in
    capacity_from _ _ _ _ r.lo square (head_to _ _ made.head.hi size made.head_is.high) made.capacity_is.capacity_is.low

pub pressure-greatest : (demand : ℤ) (minimum required : Decimal) (us : Bool) (r : Pair) → demand ≤ℤ pos (10 ^ 15)
    → IsInReach demand minimum required us → IsPressurePair demand minimum required us r
    → numerator r.hi < 2 ^ 66 * denominator r.hi
pressure-greatest demand minimum required us r most are made =
    let flow : numerator made.flows.hi ≤ 2 ^ 50 * denominator made.flows.hi =
    flow_to (up demand) made.flows.hi (demand_to demand are.some most) made.flows_is.high in
    let square = square_to _ _ made.capacity_is.square.hi flow made.capacity_is.square_is.high in
    let size = differs_from us _ (difference_from minimum.nano required.nano are.apart) in
    capacity_to _ _ _ _ r.hi square (head_from _ _ made.head.lo size made.head_is.low) made.capacity_is.capacity_is.high

-- ---- there is one

pub pressure-some : (us : Bool) (v : ℕ) → 0 < v → 0 < (pressure_fraction us v).num
pressure-some true v some = omega (arith, some)
pressure-some false v some = omega (arith, some)

pressure-parts : (us : Bool) (v : ℕ) → 0 < (pressure_fraction us v).den
pressure-parts true v = omega arith
pressure-parts false v = omega arith

-- numbers in range have a pair
pub pressure_pair_of : (demand : ℤ) (minimum required : Decimal) (us : Bool) → IsInReach demand minimum required us
    → (r : Pair) × IsPressurePair demand minimum required us r
pressure_pair_of demand minimum required us are =
    let some = are.some in
    let d = up (required.nano -ℤ minimum.nano) in
    let apart = difference_from minimum.nano required.nano are.apart in
    let flows = ratio_of (up demand) 1 (omega (arith, ints, some)) (omega arith) in
    let head = ratio_of (pressure_fraction us d).num (pressure_fraction us d).den
    (pressure-some us d (omega (arith, apart))) (pressure-parts us d) in
    let square = product_of flows.pair flows.pair in
    let capacity = quotient_of square.pair head.pair in (
      capacity.pair,
      record {
        flows = flows.pair;
        flows_is = flows.made;
        head = head.pair;
        head_is = head.made;
        capacity_is = record { square = square.pair; square_is = square.made; capacity_is = capacity.made };
      },
    )

-- and so a capacity
pub record PressureCapacity (demand : ℤ) (minimum required : Decimal) (us : Bool) : Type 0 where
  pub capacity : Capacity
  pub origin : capacity.origin ≡ PressureDemand demand minimum required us
  pub made : IsMade capacity

pub pressure_capacity_of : (demand : ℤ) (minimum required : Decimal) (us : Bool) → demand ≤ℤ pos (10 ^ 15)
    → IsInReach demand minimum required us → PressureCapacity demand minimum required us
pressure_capacity_of demand minimum required us most are =
    let (r, made) = pressure_pair_of demand minimum required us are in
    record {
      capacity = record {
        lo = r.lo;
        hi = r.hi;
        origin = PressureDemand demand minimum required us;
        ordered = r.ordered;
        least = pressure-least demand minimum required us r are made;
        greatest = pressure-greatest demand minimum required us r most are made;
      };
      origin = refl;
      made = record { pair = r; low = refl; high = refl; made = made };
    }
