-- A demand between the two pressures, and the ends of a pressure that isn't below 0.
use Rattle.std.proofs.Common.{◌≡◌, ℤ, pos, ◌-ℤ◌, ◌<ℤ◌, ◌≤ℤ◌, Bool, true, false, sym, subst, arith}
use Rattle.std.specs.Prelude.{int_le}
use Rattle.std.specs.Int.{int_min}
use Rattle.std.proofs.lemmas.Int.{ints}
use Rattle.hyd_num.specs.Rational.{floor, ceiling}
use Rattle.hyd_num.specs.declared.decimals.Decimal.{Decimal}
use Rattle.hyd_num.specs.declared.spans.Span.{Span}
use Rattle.hyd_spec.specs.DemandsHeadsAndPumpLifts.{pressure_value}
use Rattle.hyd_theorems_on_definitions.proofs.PassedOn.{floor_greatest, floor_at_most_ceiling}
use Rattle.hyd_law.specs.ComposedLaws.{IsLift}
use Rattle.hyd_theorems_on_definitions.specs.PressureDrivenDemand.{stepped}

not_up_to : (a p : ℤ) → a <ℤ p → int_le p a ≡ false
not_up_to a p h = grind (arith, ints)

pub between_is : (D m r : ℤ) (f : ℤ → ℤ) (p x : ℤ) → m <ℤ p → p <ℤ r → x ≡ int_min D (f (p -ℤ m))
    → x ≡ stepped D m r f p
between_is D m r f p x h l e = rw (not_up_to m p h, not_up_to p r l) e

up_to : (a p : ℤ) → p ≤ℤ a → int_le p a ≡ true
up_to a p h = grind (arith, ints)

pub all_is : (D m r : ℤ) (f : ℤ → ℤ) (p x : ℤ) → m <ℤ p → r ≤ℤ p → x ≡ D → x ≡ stepped D m r f p
all_is D m r f p x h l e = rw (not_up_to m p h, up_to p r l) e

floor_not_negative : (us : Bool) (pressure : Decimal) → pos 0 ≤ℤ pressure.nano
    → pos 0 ≤ℤ floor (pressure_value us pressure)
floor_not_negative true pressure some =
    floor_greatest (pressure_value true pressure) (pos 0) (omega arith) (omega (arith, ints, some))
floor_not_negative false pressure some =
    floor_greatest (pressure_value false pressure) (pos 0) (omega arith) (omega (arith, ints, some))

pub lo_not_negative : (us : Bool) (pressure : Decimal) (span : Span) → IsLift (pressure_value us pressure) span
    → pos 0 ≤ℤ pressure.nano → pos 0 ≤ℤ span.lo
lo_not_negative us pressure span lift some = subst (λ (z : ℤ). pos 0 ≤ℤ z) (sym lift.floor_is)
    (floor_not_negative us pressure some)

floor_below_ceiling : (us : Bool) (pressure : Decimal) → floor (pressure_value us pressure)
    ≤ℤ ceiling (pressure_value us pressure)
floor_below_ceiling true pressure = floor_at_most_ceiling (pressure_value true pressure) (omega arith)
floor_below_ceiling false pressure = floor_at_most_ceiling (pressure_value false pressure) (omega arith)

pub hi_not_negative : (us : Bool) (pressure : Decimal) (span : Span) → IsLift (pressure_value us pressure) span
    → pos 0 ≤ℤ pressure.nano → pos 0 ≤ℤ span.hi
hi_not_negative us pressure span lift some =
    let least = floor_not_negative us pressure some in
    let most = floor_below_ceiling us pressure in
    let is = lift.ceiling_is in omega (arith, ints, least, most, is)
