-- The enclosing functions of a pipe with Hazen-Williams losses at a scale S: at a head difference of S-th parts of a
-- head tick, a whole number of S-th parts of a flow tick at most the exact flow, and one at least it.
--
-- In parts, the power 1852 of a flow is S^1852 times that in ticks, and the power 1000 of a head S^1000 times: so the
-- constant of powers is taken S^852-fold. A squared flow is S^2 times that in ticks: so of the head that it loses to
-- fittings the S-th part is taken.
-- Source: interval arithmetic with outward rounding (Moore 1966, Interval Analysis), for the law of EPANET 2.2 User
-- Manual, chapter 3.
use Rattle.std.specs.Prelude.{ℕ, zero, suc, ◌≡◌, ◌+◌, ◌-◌, ◌*◌, ◌/◌, ◌^◌, ℤ, pos, negsuc, neg_ℤ}
use Rattle.std.specs.Prelude.{Bool, true, ◌&&◌, ◌||◌, nat_le, nat_lt, if◌then◌else◌, min, Option, Some, None}
use Rattle.hyd_num.specs.declared.binary.Scaled.{Scaled}
use Rattle.hyd_num.specs.declared.pairs.Pair.{Pair}
use Rattle.hyd_num.specs.BinaryNumbers.{numerator, denominator}
use Rattle.hyd_spec_power_laws.specs.declared.power_capacities.PowerCapacity.{PowerCapacity}
use Rattle.hyd_spec_power_laws.specs.CutPowers.{greatest, least}
use Rattle.hyd_spec_power_laws.specs.WholeFlows.{flow_side, head_side, greatest_head, greatest_flow}

-- ---- what a minor loss leaves of the head d, in 2^-60 parts of a head tick's part

-- rounded down, and 0 where nothing is left
abbrev pub left_at_least_at : ℕ → Option Pair → ℕ → ℕ → ℕ
left_at_least_at S None d q = d * 2 ^ 60
left_at_least_at S (Some m) d q =
    d * 2 ^ 60 - (numerator m.hi * (q * q) * 2 ^ 60 + (denominator m.hi * S - 1)) / (denominator m.hi * S)

-- rounded up
abbrev pub left_at_most_at : ℕ → Option Pair → ℕ → ℕ → ℕ
left_at_most_at S None d q = d * 2 ^ 60
left_at_most_at S (Some m) d q = d * 2 ^ 60 - numerator m.lo * (q * q) * 2 ^ 60 / (denominator m.lo * S)

-- ---- tests at the head d

-- the head's side of a test, by the constant taken S^852-fold
abbrev pub head_side_at : ℕ → Scaled → ℕ → ℕ
head_side_at S k z = S ^ 852 * head_side k z

-- a flow that passes loses at most d
abbrev pub passes_low_at : ℕ → Scaled → Option Pair → ℕ → ℕ → Bool
passes_low_at S k minor d q =
    nat_lt 0 (left_at_least_at S minor d q)
    && nat_le (flow_side k q) (head_side_at S k (left_at_least_at S minor d q))

-- a flow that passes loses at least d
abbrev pub passes_high_at : ℕ → Scaled → Option Pair → ℕ → ℕ → Bool
passes_high_at S k minor d q =
    nat_le (left_at_most_at S minor d q) 0
    || nat_le (head_side_at S k (left_at_most_at S minor d q)) (flow_side k q)

-- the greatest flow loses at least the greatest head
abbrev pub covers_at : ℕ → Scaled → Option Pair → Bool
covers_at S k minor = passes_high_at S k minor greatest_head greatest_flow

-- ---- the flow at the head d, in whole parts of a flow tick

-- at most the exact flow; a head beyond the greatest one counts as that
abbrev pub flow_down_at : ℕ → Scaled → Option Pair → ℕ → ℕ
flow_down_at S k minor d = greatest (passes_low_at S k minor (min d greatest_head)) greatest_flow

-- at least it; where it isn't sought, beyond the greatest head and where the greatest flow doesn't lose that, as many
-- times the greatest flow of whole ticks
abbrev pub flow_up_at : ℕ → Scaled → Option Pair → ℕ → ℕ
flow_up_at S k minor zero = zero
flow_up_at S k minor (suc d) =
    if nat_le (suc d) greatest_head && covers_at S k minor
    then least (passes_high_at S k minor (suc d)) 1 (greatest_flow - 1)
    else suc d * (S * greatest_flow)

-- ---- with signs

-- At most the exact flow.
abbrev pub power_low_at : ℕ → PowerCapacity → ℤ → ℤ
power_low_at S capacity (pos d) = pos (flow_down_at S capacity.low capacity.minor d)
power_low_at S capacity (negsuc d) = neg_ℤ (pos (flow_up_at S capacity.high capacity.minor (suc d)))

-- At least it.
abbrev pub power_high_at : ℕ → PowerCapacity → ℤ → ℤ
power_high_at S capacity (pos d) = pos (flow_up_at S capacity.high capacity.minor d)
power_high_at S capacity (negsuc d) = neg_ℤ (pos (flow_down_at S capacity.low capacity.minor (suc d)))

-- ---- ranges

-- A capacity is in range at a scale: the greatest flow loses at least the greatest head there too, both in parts.
abbrev pub IsPowerInRange : ℕ → PowerCapacity → Type 0
IsPowerInRange S capacity = covers_at S capacity.high capacity.minor ≡ true
