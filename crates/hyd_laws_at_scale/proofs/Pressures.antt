-- Pressures of a file are small.
use Rattle.std.proofs.Common.{◌≡◌, ℕ, ◌*◌, ◌^◌, ◌≤◌, ℤ, pos, neg_ℤ, ◌-ℤ◌, ◌*ℤ◌, ◌≤ℤ◌, ◌<ℤ◌, unsigned_abs, Bool, true}
use Rattle.std.proofs.Common.{false, refl, sym, arith}
use Rattle.std.proofs.lemmas.Int.{ints}
use Rattle.hyd_num.specs.Rational.{floor, ceiling}
use Rattle.hyd_num.specs.declared.decimals.Decimal.{Decimal}
use Rattle.hyd_num.specs.declared.spans.Span.{Span}
use Rattle.hyd_spec.specs.DemandsHeadsAndPumpLifts.{pressure_value}
use Rattle.hyd_lemmas.proofs.Integers.{floor_low, floor_greatest, ceiling_high, ceiling_least}
use Rattle.hyd_lemmas.proofs.BooleanTests.{le-from}
use Rattle.hyd_law.specs.ComposedLaws.{IsLift}
use Rattle.hyd_num.proofs.Integers.{times_rises}
use Rattle.hyd_spec.specs.Scale.{at_scale}
use Rattle.hyd_spec_witnesses.specs.EnclosingFunctionsAtScale.{IsDifference}
use Rattle.hyd_theorems_on_definitions.specs.PressureDrivenDemand.{stepped}

-- the least and the greatest whole number of head ticks
abbrev most : ℤ
most = pos (10 ^ 29)

floor_most : (us : Bool) (pressure : Decimal) → floor (pressure_value us pressure) ≤ℤ most
floor_most true pressure =
    omega (arith, ints, pressure.bounded, floor_low (pressure_value true pressure) (omega arith))
floor_most false pressure =
    omega (arith, ints, pressure.bounded, floor_low (pressure_value false pressure) (omega arith))

floor_least : (us : Bool) (pressure : Decimal) → neg_ℤ most ≤ℤ floor (pressure_value us pressure)
floor_least true pressure =
    floor_greatest (pressure_value true pressure) (neg_ℤ most) (omega arith) (omega (arith, ints, pressure.bounded))
floor_least false pressure =
    floor_greatest (pressure_value false pressure) (neg_ℤ most) (omega arith) (omega (arith, ints, pressure.bounded))

ceiling_most : (us : Bool) (pressure : Decimal) → ceiling (pressure_value us pressure) ≤ℤ most
ceiling_most true pressure =
    ceiling_least (pressure_value true pressure) most (omega arith) (omega (arith, ints, pressure.bounded))
ceiling_most false pressure =
    ceiling_least (pressure_value false pressure) most (omega arith) (omega (arith, ints, pressure.bounded))

ceiling_from : (us : Bool) (pressure : Decimal) → neg_ℤ most ≤ℤ ceiling (pressure_value us pressure)
ceiling_from true pressure =
    omega (arith, ints, pressure.bounded, ceiling_high (pressure_value true pressure) (omega arith))
ceiling_from false pressure =
    omega (arith, ints, pressure.bounded, ceiling_high (pressure_value false pressure) (omega arith))

pub low_small : (us : Bool) (pressure : Decimal) (span : Span) → IsLift (pressure_value us pressure) span
    → unsigned_abs span.lo ≤ 10 ^ 29
low_small us pressure span is =
    omega (arith, ints, is.floor_is, floor_most us pressure, floor_least us pressure)

pub high_small : (us : Bool) (pressure : Decimal) (span : Span) → IsLift (pressure_value us pressure) span
    → unsigned_abs span.hi ≤ 10 ^ 29
high_small us pressure span is =
    omega (arith, ints, is.ceiling_is, ceiling_most us pressure, ceiling_from us pressure)

-- ---- a demand in its three parts

pub none_is : (D m r : ℤ) (f : ℤ → ℤ) (p : ℤ) → p ≤ℤ m → pos 0 ≡ stepped D m r f p
none_is D m r f p le = sym (rw (le-from p m le) refl)

-- a number of parts that isn't negative
pub parts_not_negative : (S : ℕ) (x : ℤ) → pos 0 ≤ℤ x → pos 0 ≤ℤ at_scale S x
parts_not_negative S x some =
    let l = times_rises S (pos 0) x some in
    let zero : pos S *ℤ pos 0 ≡ pos 0 = omega (arith, ints) in
    omega (arith, ints, l, zero)

-- a pressure above one that isn't negative, less that one
pub rest_in_range : (p m : ℤ) → IsDifference p → pos 0 ≤ℤ m → m <ℤ p → IsDifference (p -ℤ m)
rest_in_range p m inside some above = omega (arith, ints, inside, some, above)
