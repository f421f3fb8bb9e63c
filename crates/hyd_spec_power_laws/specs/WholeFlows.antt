-- Tests of whole flows by cut powers. With k a constant of powers, "the power 1852 of the flow q is at most k times the
-- power 1000 of the head z" is decided by cut powers of 2^62 q and, z being in 2^-60 head ticks, of 2^122 z: so the
-- flow's side is to be multiplied by 2^(122 1000 - 62 1852).
use Rattle.std.specs.Prelude.{ℕ, zero, suc, ◌≡◌, ◌+◌, ◌-◌, ◌*◌, ◌/◌, ◌^◌, Bool, true, ◌&&◌, ◌||◌, nat_le, nat_lt}
use Rattle.std.specs.Prelude.{Option, Some, None, min, if◌then◌else◌}
use borrow.Author.Differences.{up, down}
use Rattle.hyd_num.specs.declared.binary.Scaled.{Scaled}
use Rattle.hyd_num.specs.declared.pairs.Pair.{Pair}
use Rattle.hyd_num.specs.BinaryNumbers.{numerator, denominator}
use Rattle.hyd_spec_power_laws.specs.declared.cut_numbers.CutNumber.{CutNumber}
use Rattle.hyd_spec_power_laws.specs.CutPowers.{value, cut_product, cut_power, digits_of_1852, digits_of_1000}
use Rattle.hyd_spec_power_laws.specs.CutPowers.{greatest, least, in_63_digits}

-- ---- what a minor loss leaves of the head d, in 2^-60 head ticks

-- rounded down, and 0 where nothing is left
abbrev pub left_at_least : Option Pair → ℕ → ℕ → ℕ
left_at_least None d q = d * 2 ^ 60
left_at_least (Some m) d q =
    d * 2 ^ 60 - (numerator m.hi * (q * q) * 2 ^ 60 + (denominator m.hi - 1)) / denominator m.hi

-- rounded up
abbrev pub left_at_most : Option Pair → ℕ → ℕ → ℕ
left_at_most None d q = d * 2 ^ 60
left_at_most (Some m) d q = d * 2 ^ 60 - numerator m.lo * (q * q) * 2 ^ 60 / denominator m.lo

-- ---- both sides, by cut powers

-- the flow's
abbrev pub flow_side : Scaled → ℕ → ℕ
flow_side k q = value (cut_power (in_63_digits q) digits_of_1852) * 2 ^ (7176 + down k.exp)

-- the mantissa of k times the power of the head
abbrev pub driving : Scaled → ℕ → CutNumber
driving k z = cut_product (record { mant = k.mant; exp = 0 }) (cut_power (in_63_digits z) digits_of_1000)

-- the head's
abbrev pub head_side : Scaled → ℕ → ℕ
head_side k z = value (driving k z) * 2 ^ up k.exp

-- ---- tests at the head d

-- a flow that passes loses at most d
abbrev pub passes_low : Scaled → Option Pair → ℕ → ℕ → Bool
passes_low k minor d q =
    nat_lt 0 (left_at_least minor d q) && nat_le (flow_side k q) (head_side k (left_at_least minor d q))

-- a flow that passes loses at least d
abbrev pub passes_high : Scaled → Option Pair → ℕ → ℕ → Bool
passes_high k minor d q =
    nat_le (left_at_most minor d q) 0 || nat_le (head_side k (left_at_most minor d q)) (flow_side k q)

-- ---- the flow at the head d, in whole flow ticks

-- no difference of heads is greater, in head ticks
abbrev pub greatest_head : ℕ
greatest_head = 3 * 10 ^ 18

-- no flow that is sought is greater
abbrev pub greatest_flow : ℕ
greatest_flow = 2 ^ 62

-- the greatest flow loses at least the greatest head
abbrev pub Covers : Scaled → Option Pair → Type 0
Covers k minor = passes_high k minor greatest_head greatest_flow ≡ true

-- at most the exact flow; a head beyond the greatest one counts as that
abbrev pub flow_down : Scaled → Option Pair → ℕ → ℕ
flow_down k minor d = greatest (passes_low k minor (min d greatest_head)) greatest_flow

-- at least it; beyond the greatest head as many times the greatest flow, since a loss more than doubles with the flow
abbrev pub flow_up : Scaled → Option Pair → ℕ → ℕ
flow_up k minor zero = zero
flow_up k minor (suc d) =
    if nat_le (suc d) greatest_head then least (passes_high k minor (suc d)) 1 (greatest_flow - 1)
    else suc d * greatest_flow
