-- Enclosing functions: for each law and at a head difference of whole head ticks, a whole number of flow ticks that is
-- at most the exact flow, and one that is at least it. Neither falls as the difference rises.
-- Source: interval arithmetic with outward rounding (Moore 1966, Interval Analysis), for the laws of EPANET 2.2 User
-- Manual, chapter 3.
use Rattle.std.specs.Prelude.{ℕ, zero, suc, ◌*◌, ◌^◌, ℤ, pos, negsuc, neg_ℤ, ◌+ℤ◌, ◌-ℤ◌, ◌*ℤ◌, nat_le, int_le, ◌==◌}
use Rattle.std.specs.Prelude.{◌+◌, if◌then◌else◌, Option}
use Rattle.std.specs.Int.{int_max, int_min}
use Rattle.std.specs.Option.{option_map_or}
use Rattle.hyd_num.specs.BinaryNumbers.{numerator, denominator}
use Rattle.hyd_spec.specs.PassedOn.{power_low, power_high}
use Rattle.hyd_spec.specs.ProgramTypes.{Capacity}
use Rattle.hyd_num.specs.Rational.{Rational, floor, ceiling}
use Rattle.hyd_spec.specs.PassedOn.{value_at}
use Rattle.hyd_spec.specs.Law.{Law, Shut, QuadraticLaw, LinearLaw, Lifted, ForwardOnly, ReverseOnly, Capped, Bent, Held}
use Rattle.hyd_spec.specs.Law.{PowerLaw}

-- ---- roots

-- The greatest k of at most `bound` with k k q at most p.
unfoldable pub greatest_root : ℕ → ℕ → ℕ → ℕ
greatest_root zero p q = zero
greatest_root (suc bound) p q =
    if nat_le (suc bound * suc bound * q) p then suc bound else greatest_root bound p q

-- The floor of the root of p / q, q being above 0.
unfoldable pub root_down : ℕ → ℕ → ℕ
root_down p q = greatest_root p p q

-- Its ceiling: one more, unless the root is a whole number.
unfoldable pub root_up : ℕ → ℕ → ℕ
root_up p q = if root_down p q * root_down p q * q == p then root_down p q else root_down p q + 1

-- ---- quadratic laws

-- The root of the capacity times the head difference d (head ticks), with its sign: at most the exact flow (flow
-- ticks).
abbrev pub quadratic_low : Capacity → ℤ → ℤ
quadratic_low capacity (pos d) = pos (root_down (numerator capacity.lo * d) (denominator capacity.lo))
quadratic_low capacity (negsuc d) = neg_ℤ (pos (root_up (numerator capacity.hi * suc d) (denominator capacity.hi)))

-- The same root, at least the exact flow.
abbrev pub quadratic_high : Capacity → ℤ → ℤ
quadratic_high capacity (pos d) = pos (root_up (numerator capacity.hi * d) (denominator capacity.hi))
quadratic_high capacity (negsuc d) = neg_ℤ (pos (root_down (numerator capacity.lo * suc d) (denominator capacity.lo)))

-- ---- links

-- What a valve without loss coefficient passes: 8026.822656 flow ticks for a head tick.
abbrev pub linear_flow : ℤ → Rational
linear_flow d = record { num = pos 8026822656 *ℤ d; den = 10 ^ 6 }

-- At most the exact flow.
abbrev pub low : Law → ℤ → ℤ
low Shut d = pos 0
low (QuadraticLaw capacity) d = quadratic_low capacity d
low (PowerLaw capacity) d = power_low capacity d
low LinearLaw d = floor (linear_flow d)
low (Lifted lift law) d = low law (d +ℤ floor lift)
low (ForwardOnly law) d = int_max (pos 0) (low law d)
low (ReverseOnly law) d = int_min (pos 0) (low law d)
low (Capped setting law) d = int_min setting (low law d)
low (Bent knots) d = floor (value_at 1 knots d)
low (Held least greatest law) d = int_max least (int_min greatest (low law d))

-- At least the exact flow.
abbrev pub high : Law → ℤ → ℤ
high Shut d = pos 0
high (QuadraticLaw capacity) d = quadratic_high capacity d
high (PowerLaw capacity) d = power_high capacity d
high LinearLaw d = ceiling (linear_flow d)
high (Lifted lift law) d = high law (d +ℤ ceiling lift)
high (ForwardOnly law) d = int_max (pos 0) (high law d)
high (ReverseOnly law) d = int_min (pos 0) (high law d)
high (Capped setting law) d = int_min setting (high law d)
high (Bent knots) d = ceiling (value_at 1 knots d)
high (Held least greatest law) d = int_max least (int_min greatest (high law d))

-- ---- outflows

-- The law of a junction's demand: fixed (flow ticks), or driven by pressure between a minimum and a
-- required pressure, with the capacity of the square root law between them.
pub data DemandLaw : Type 0 where
  Fixed : ℤ → DemandLaw
  Driven : ℤ → Capacity → Rational → Rational → DemandLaw

-- At most the exact demand flow at a pressure (head ticks).
abbrev pub demand_low : DemandLaw → ℤ → ℤ
demand_low (Fixed demand) p = demand
demand_low (Driven demand capacity minimum required) p =
    if int_le p (ceiling minimum) then pos 0
    else if int_le (ceiling required) p then demand
    else int_min demand (quadratic_low capacity (p -ℤ ceiling minimum))

-- At least it.
abbrev pub demand_high : DemandLaw → ℤ → ℤ
demand_high (Fixed demand) p = demand
demand_high (Driven demand capacity minimum required) p =
    if int_le p (floor minimum) then pos 0
    else if int_le (floor required) p then demand
    else int_min demand (quadratic_high capacity (p -ℤ floor minimum))

-- At most the exact emitter flow at a pressure p (head ticks): by its quadratic law, none where there is no emitter.
abbrev pub emitter_low : Option Capacity → ℤ → ℤ
emitter_low emitter p = option_map_or (λ capacity. quadratic_low capacity p) emitter (pos 0)

-- At least it.
abbrev pub emitter_high : Option Capacity → ℤ → ℤ
emitter_high emitter p = option_map_or (λ capacity. quadratic_high capacity p) emitter (pos 0)
