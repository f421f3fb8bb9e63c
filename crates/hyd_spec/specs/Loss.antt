-- The head that a flow loses in a pipe or valve, by Chezy-Manning, at any scale S: heads are whole
-- numbers of S-th parts of a head tick, flows of S-th parts of a flow tick.
--
-- A pipe of length L and diameter d (feet), roughness n and minor coefficient K that carries q cubic
-- feet a second loses  4.66 n^2 d^-5.33 L q^2 + 0.02517 K d^-4 q^2  feet; a valve loses the second
-- summand alone. With z the head less the minor loss, "the loss is at most the head" is
-- z d^5.33 >= 4.66 n^2 L q^2, and both sides are raised to the power 100, so that all exponents
-- are whole. No root and no rounding occurs.
-- Source: EPANET 2.2 User Manual, chapter 3 (head loss formulas: Chezy-Manning) and the chapter on analysis algorithms
-- (minor losses).
use Rattle.std.specs.Prelude.{ℕ, ◌*◌, ◌^◌, ◌≤◌, Bool}
use Rattle.hyd_num.specs.Fraction.{Fraction, AtMost, times, minus, over, power}
use Rattle.hyd_num.specs.FileQuantity.{billionths, ordinary, feet, feet_across, flow_factor}
use Rattle.hyd_num.specs.FileQuantity.{ten_thousandths_of_metre_in_foot}
use Rattle.hyd_num.specs.declared.flow_units.FlowUnit.TheVariants.{Cfs}
use Rattle.hyd_spec.specs.ProgramTypes.{Decimal}

-- ---- units of the formulas

-- Head in feet: one foot is 0.3048 m, and one metre 10^13 head ticks.
abbrev pub head_in_feet : ℕ → ℕ → Fraction
head_in_feet S y = record { num = y; den = S * (ten_thousandths_of_metre_in_foot * 10 ^ 9) }

-- Flow in cubic feet a second: one is the numerator of its factor in thousandths of a flow tick.
abbrev pub flow_in_cfs : ℕ → ℕ → Fraction
flow_in_cfs S q = record { num = 1000 * q; den = S * (flow_factor Cfs).num }

-- ---- the two summands

-- The feet that one cubic foot a second loses by friction, times d^5.33: 4.66 n^2 L.
abbrev pub friction : Bool → Decimal → Decimal → Fraction
friction us length roughness =
    times (times (record { num = 466; den = 100 }) (power (ordinary (billionths roughness)) 2))
    (feet us (billionths length))

-- The feet that one cubic foot a second loses by a minor coefficient K: 0.02517 K d^-4.
abbrev pub minor_loss : Bool → Decimal → Decimal → Fraction
minor_loss us diameter k =
    over (times (record { num = 2517; den = 100000 }) (ordinary (billionths k)))
    (power (feet_across us (billionths diameter)) 4)

-- ---- pipes

-- A flow of q loses at most the head y in the pipe.
pub record PipeLossAtMost (us : Bool) (length diameter roughness minor : Decimal) (S q y : ℕ) : Type 0 where
  pub minor_within : AtMost (times (minor_loss us diameter minor) (power (flow_in_cfs S q) 2)) (head_in_feet S y)
  pub friction_within : AtMost
      (power (times (friction us length roughness) (power (flow_in_cfs S q) 2)) 100)
      (times (power (minus (head_in_feet S y) (times (minor_loss us diameter minor) (power (flow_in_cfs S q) 2))) 100)
      (power (feet_across us (billionths diameter)) 533))

-- A flow of q loses at least the head y in the pipe. Where the minor loss alone does, the
-- difference is 0 and the inequality holds.
abbrev pub PipeLossAtLeast : Bool → Decimal → Decimal → Decimal → Decimal → ℕ → ℕ → ℕ → Type 0
PipeLossAtLeast us length diameter roughness minor S q y =
    AtMost
    (times (power (minus (head_in_feet S y) (times (minor_loss us diameter minor) (power (flow_in_cfs S q) 2))) 100)
    (power (feet_across us (billionths diameter)) 533))
    (power (times (friction us length roughness) (power (flow_in_cfs S q) 2)) 100)

-- ---- valves

-- A flow of q loses at most the head y in an open valve with a coefficient k above 0.
abbrev pub ValveLossAtMost : Bool → Decimal → Decimal → ℕ → ℕ → ℕ → Type 0
ValveLossAtMost us diameter k S q y =
    AtMost (times (minor_loss us diameter k) (power (flow_in_cfs S q) 2)) (head_in_feet S y)

-- A flow of q loses at least the head y in an open valve with a coefficient k above 0.
abbrev pub ValveLossAtLeast : Bool → Decimal → Decimal → ℕ → ℕ → ℕ → Type 0
ValveLossAtLeast us diameter k S q y =
    AtMost (head_in_feet S y) (times (minor_loss us diameter k) (power (flow_in_cfs S q) 2))

-- ---- quadratic relations

-- With a resistance r (head ticks for a squared flow tick) the loss r q^2 is at most y. Pumps, emitters and
-- pressure-driven demands follow such a relation.
abbrev pub SquareLossAtMost : Fraction → ℕ → ℕ → ℕ → Type 0
SquareLossAtMost r S q y = r.num * (q * q) ≤ r.den * (S * y)

-- The loss r q^2 is at least y.
abbrev pub SquareLossAtLeast : Fraction → ℕ → ℕ → ℕ → Type 0
SquareLossAtLeast r S q y = r.den * (S * y) ≤ r.num * (q * q)
