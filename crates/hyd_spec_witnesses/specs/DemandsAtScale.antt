-- The enclosing functions of demands at a scale: at a pressure of S-th parts of a head tick, a whole number of S-th
-- parts of a flow tick that is at most the exact demand flow, and one that is at least it.
-- Source: interval arithmetic with outward rounding (Moore 1966, Interval Analysis), for EPANET 2.2 User Manual,
-- chapter 3 (pressure-driven demand).
use Rattle.std.specs.Prelude.{ℕ, ℤ, pos, ◌-ℤ◌, int_le, if◌then◌else◌, ⊤}
use Rattle.std.specs.Int.{int_min}
use Rattle.hyd_num.specs.Rational.{Rational, floor, ceiling}
use Rattle.hyd_spec.specs.ProgramTypes.{Capacity}
use Rattle.hyd_spec.specs.Scale.{at_scale}
use Rattle.hyd_spec_certificates.specs.EnclosingFunctions.{DemandLaw, Fixed, Driven}
use Rattle.hyd_spec_witnesses.specs.EnclosingFunctionsAtScale.{quadratic_low_at, quadratic_high_at, IsDifference}
use Rattle.hyd_spec_witnesses.specs.EnclosingFunctionsAtScale.{IsCapacityInRange}

-- At most the flow of a demand that is driven by pressure: nothing up to the minimum pressure, the demand from the
-- required one on, and between them the root, the demand at most.
abbrev pub driven_low_at : ℕ → ℤ → Capacity → Rational → Rational → ℤ → ℤ
driven_low_at S demand capacity minimum required p =
    if int_le p (at_scale S (ceiling minimum)) then pos 0
    else if int_le (at_scale S (ceiling required)) p then at_scale S demand
    else int_min (at_scale S demand) (quadratic_low_at S capacity (p -ℤ at_scale S (ceiling minimum)))

-- At least it.
abbrev pub driven_high_at : ℕ → ℤ → Capacity → Rational → Rational → ℤ → ℤ
driven_high_at S demand capacity minimum required p =
    if int_le p (at_scale S (floor minimum)) then pos 0
    else if int_le (at_scale S (floor required)) p then at_scale S demand
    else int_min (at_scale S demand) (quadratic_high_at S capacity (p -ℤ at_scale S (floor minimum)))

-- At most the exact demand flow.
abbrev pub demand_low_at : ℕ → DemandLaw → ℤ → ℤ
demand_low_at S (Fixed demand) p = at_scale S demand
demand_low_at S (Driven demand capacity minimum required) p = driven_low_at S demand capacity minimum required p

-- At least it.
abbrev pub demand_high_at : ℕ → DemandLaw → ℤ → ℤ
demand_high_at S (Fixed demand) p = at_scale S demand
demand_high_at S (Driven demand capacity minimum required) p = driven_high_at S demand capacity minimum required p

-- The capacity of a demand, where it has one, is in range.
abbrev pub IsItsCapacityInRange : ℕ → DemandLaw → Type 0
IsItsCapacityInRange S (Fixed demand) = ⊤
IsItsCapacityInRange S (Driven demand capacity minimum required) = IsCapacityInRange S capacity

-- A demand is in range at a pressure.
pub record IsDemandInRange (S : ℕ) (law : DemandLaw) (p : ℤ) : Type 0 where
  pub difference : IsDifference p
  pub capacity : IsItsCapacityInRange S law
