-- The head that a flow loses in a pipe, by Hazen-Williams, at any scale S: heads are whole numbers of S-th parts of a
-- head tick, flows of S-th parts of a flow tick.
--
-- A pipe of length L and diameter d (feet), coefficient C and minor coefficient K that carries q cubic feet a second
-- loses  4.727 C^-1.852 d^-4.871 L q^1.852 + 0.02517 K d^-4 q^2  feet. With z the head less the minor loss, "the loss
-- is at most the head" is  4.727 L (q / C)^1.852 <= z d^4.871, and both sides are raised to the power 1000, so that all
-- exponents are whole. No root and no rounding occurs.
-- Source: EPANET 2.2 User Manual, chapter 3 (head loss formulas: Hazen-Williams) and the chapter on analysis algorithms
-- (minor losses).
use Rattle.std.specs.Prelude.{ℕ, ◌*◌, ◌^◌, Bool}
use Rattle.hyd_num.specs.Fraction.{Fraction, fraction, AtMost, times, minus, over, power}
use Rattle.hyd_num.specs.FileQuantity.{billionths, ordinary, feet, feet_across, flow_factor}
use Rattle.hyd_num.specs.FileQuantity.{ten_thousandths_of_metre_in_foot}
use Rattle.hyd_num.specs.declared.decimals.Decimal.{Decimal}
use Rattle.hyd_num.specs.declared.flow_units.FlowUnit.TheVariants.{Cfs}

-- Head in feet: one foot is 0.3048 m, and one metre 10^13 head ticks.
abbrev pub head_in_feet : ℕ → ℕ → Fraction
head_in_feet S y = fraction y (S * (ten_thousandths_of_metre_in_foot * 10 ^ 9))

-- Flow in cubic feet a second: one is the numerator of its factor in thousandths of a flow tick.
abbrev pub flow_in_cfs : ℕ → ℕ → Fraction
flow_in_cfs S q = fraction (1000 * q) (S * (flow_factor Cfs).num)

-- The feet that a flow of as many cubic feet a second as the coefficient loses by friction, times d^4.871: 4.727 L.
abbrev pub drag : Bool → Decimal → Fraction
drag us length = times (fraction 4727 1000) (feet us (billionths length))

-- The flow over the coefficient.
abbrev pub flow_over_coefficient : Decimal → ℕ → ℕ → Fraction
flow_over_coefficient c S q = over (flow_in_cfs S q) (ordinary (billionths c))

-- The feet that a flow of q loses by a minor coefficient K: 0.02517 K d^-4 q^2.
abbrev pub minor_loss : Bool → Decimal → Decimal → ℕ → ℕ → Fraction
minor_loss us diameter k S q =
    times (over (times (fraction 2517 100000) (ordinary (billionths k))) (power (feet_across us
    (billionths diameter)) 4))
    (power (flow_in_cfs S q) 2)

-- The power 1000 of the feet that friction loses, times d^4871.
abbrev pub friction : Bool → Decimal → Decimal → ℕ → ℕ → Fraction
friction us length c S q = times (power (drag us length) 1000) (power (flow_over_coefficient c S q) 1852)

-- The power 1000 of the head less the minor loss, times d^4871.
abbrev pub left_to_friction : Bool → Decimal → Decimal → ℕ → ℕ → ℕ → Fraction
left_to_friction us diameter minor S q y =
    times (power (minus (head_in_feet S y) (minor_loss us diameter minor S q)) 1000)
    (power (feet_across us (billionths diameter)) 4871)

-- A flow of q loses at most the head y in the pipe.
pub record HazenWilliamsAtMost (us : Bool) (length diameter c minor : Decimal) (S q y : ℕ) : Type 0 where
  pub minor_within : AtMost (minor_loss us diameter minor S q) (head_in_feet S y)
  pub friction_within : AtMost (friction us length c S q) (left_to_friction us diameter minor S q y)

-- A flow of q loses at least the head y in the pipe. Where the minor loss alone does, the difference is 0 and the
-- inequality holds.
abbrev pub HazenWilliamsAtLeast : Bool → Decimal → Decimal → Decimal → Decimal → ℕ → ℕ → ℕ → Type 0
HazenWilliamsAtLeast us length diameter c minor S q y =
    AtMost (left_to_friction us diameter minor S q y) (friction us length c S q)
