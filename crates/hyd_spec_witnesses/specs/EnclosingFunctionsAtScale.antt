-- Enclosing functions at a scale: for each law and at a head difference of S-th parts of a head tick, a whole number of
-- S-th parts of a flow tick that is at most the exact flow, and one that is at least it. Lifts, knots, caps, bounds and
-- capacities are taken S-fold; of a lift, its floor and its ceiling are.
-- Source: interval arithmetic with outward rounding (Moore 1966, Interval Analysis), for the laws of EPANET 2.2 User
-- Manual, chapter 3.
use Rattle.std.specs.Prelude.{ℕ, suc, ◌*◌, ◌<◌, ◌≤◌, ◌^◌, ℤ, pos, negsuc, neg_ℤ, ◌+ℤ◌, unsigned_abs, ⊤}
use Rattle.std.specs.Int.{int_max, int_min}
use Rattle.hyd_num.specs.BinaryNumbers.{numerator, denominator}
use Rattle.hyd_num.specs.Rational.{floor, ceiling}
use Rattle.hyd_net.specs.Curves.{value_at}
use Rattle.hyd_spec_pipe_laws.specs.FlowsAtScale.{power_low_at, power_high_at, IsPowerInRange}
use Rattle.hyd_spec.specs.ProgramTypes.{Capacity}
use Rattle.hyd_spec.specs.Scale.{at_scale}
use Rattle.hyd_spec.specs.Law.{Law, Shut, QuadraticLaw, LinearLaw, Lifted, ForwardOnly, ReverseOnly, Capped, Bent, Held}
use Rattle.hyd_spec.specs.Law.{PowerLaw}
use Rattle.hyd_spec_certificates.specs.EnclosingFunctions.{root_down, root_up, linear_flow}

-- ---- quadratic laws

-- The root of S times the capacity times the head difference, with its sign: at most the exact flow.
abbrev pub quadratic_low_at : ℕ → Capacity → ℤ → ℤ
quadratic_low_at S capacity (pos d) = pos (root_down ((S * numerator capacity.lo) * d) (denominator capacity.lo))
quadratic_low_at S capacity (negsuc d) =
    neg_ℤ (pos (root_up ((S * numerator capacity.hi) * suc d) (denominator capacity.hi)))

-- The same root, at least the exact flow.
abbrev pub quadratic_high_at : ℕ → Capacity → ℤ → ℤ
quadratic_high_at S capacity (pos d) = pos (root_up ((S * numerator capacity.hi) * d) (denominator capacity.hi))
quadratic_high_at S capacity (negsuc d) =
    neg_ℤ (pos (root_down ((S * numerator capacity.lo) * suc d) (denominator capacity.lo)))

-- ---- links

-- At most the exact flow.
abbrev pub low_at : ℕ → Law → ℤ → ℤ
low_at S Shut d = pos 0
low_at S (QuadraticLaw capacity) d = quadratic_low_at S capacity d
low_at S (PowerLaw capacity) d = power_low_at S capacity d
low_at S LinearLaw d = floor (linear_flow d)
low_at S (Lifted lift law) d = low_at S law (d +ℤ at_scale S (floor lift))
low_at S (ForwardOnly law) d = int_max (pos 0) (low_at S law d)
low_at S (ReverseOnly law) d = int_min (pos 0) (low_at S law d)
low_at S (Capped setting law) d = int_min (at_scale S setting) (low_at S law d)
low_at S (Bent knots) d = floor (value_at S knots d)
low_at S (Held least greatest law) d = int_max (at_scale S least) (int_min (at_scale S greatest) (low_at S law d))

-- At least the exact flow.
abbrev pub high_at : ℕ → Law → ℤ → ℤ
high_at S Shut d = pos 0
high_at S (QuadraticLaw capacity) d = quadratic_high_at S capacity d
high_at S (PowerLaw capacity) d = power_high_at S capacity d
high_at S LinearLaw d = ceiling (linear_flow d)
high_at S (Lifted lift law) d = high_at S law (d +ℤ at_scale S (ceiling lift))
high_at S (ForwardOnly law) d = int_max (pos 0) (high_at S law d)
high_at S (ReverseOnly law) d = int_min (pos 0) (high_at S law d)
high_at S (Capped setting law) d = int_min (at_scale S setting) (high_at S law d)
high_at S (Bent knots) d = ceiling (value_at S knots d)
high_at S (Held least greatest law) d = int_max (at_scale S least) (int_min (at_scale S greatest) (high_at S law d))

-- ---- ranges

-- A head difference, or a pressure, is at most this in magnitude (S-th parts of a head tick, at every scale), else no
-- flow is met at it.
abbrev pub difference_limit : ℕ
difference_limit = 3 * 10 ^ 18

abbrev pub IsDifference : ℤ → Type 0
IsDifference d = unsigned_abs d ≤ difference_limit

-- The upper end of a capacity, taken S-fold, is below 2^66.
abbrev pub IsCapacityInRange : ℕ → Capacity → Type 0
IsCapacityInRange S capacity = S * numerator capacity.hi < 2 ^ 66 * denominator capacity.hi

-- Each capacity of a law is in range, and the head difference still is one where a lift is added to it.
abbrev pub AreItsPartsInRange : ℕ → Law → ℤ → Type 0
AreItsPartsInRange S Shut d = ⊤
AreItsPartsInRange S (QuadraticLaw capacity) d = IsCapacityInRange S capacity
AreItsPartsInRange S (PowerLaw capacity) d = IsPowerInRange S capacity
AreItsPartsInRange S LinearLaw d = ⊤
AreItsPartsInRange S (Lifted lift law) d =
    IsDifference (d +ℤ at_scale S (floor lift))
    × (IsDifference (d +ℤ at_scale S (ceiling lift)) × AreItsPartsInRange S law d)
AreItsPartsInRange S (ForwardOnly law) d = AreItsPartsInRange S law d
AreItsPartsInRange S (ReverseOnly law) d = AreItsPartsInRange S law d
AreItsPartsInRange S (Capped setting law) d = AreItsPartsInRange S law d
AreItsPartsInRange S (Bent knots) d = ⊤
AreItsPartsInRange S (Held least greatest law) d = AreItsPartsInRange S law d

-- A law is in range at a head difference.
pub record IsInRange (S : ℕ) (law : Law) (d : ℤ) : Type 0 where
  pub difference : IsDifference d
  pub parts : AreItsPartsInRange S law d
