-- Printed decimals are those of the definition.
use Rattle.std.proofs.Common.{◌≡◌, ◌<◌, ◌<ℤ◌, ℤ, pos, neg_ℤ, refl, arith}
use Rattle.std.proofs.lemmas.Int.{ints}
use Rattle.hyd_num.specs.Rational.{negated, floor, ceiling}
use Rattle.hyd_num.proofs.Floors.{floor_is, ceiling_is}
use Rattle.hyd_num.specs.PrintedDecimals.{IsRoundedDown, IsRoundedUp}
use Rattle.hyd_units.proofs.FloorsAndCeilings.{IsFloor-floor, IsCeiling-ceiling}
use Rattle.hyd_spec.specs.ProgramTypes.{Project}
use Rattle.hyd_spec.specs.DemandsHeadsAndPumpLifts.{is_us}
use Rattle.hyd_spec_certificates.specs.Interval.{Interval}
use Rattle.hyd_spec_certificates.specs.PrintedIntervals.{Prints}
use Rattle.hyd_report.specs.PrintedIntervals.{in_ten_thousandths, printed, quantity_in}
use Rattle.hyd_report.specs.declared.printed_intervals.Quantity.{Quantity}
use Rattle.hyd_report.specs.declared.printed_intervals.Quantity.TheVariants.{Head, Pressure, Flow}
use Rattle.hyd_lemmas.proofs.DenominatorsAboveZero.{flow_above, head_above, pressure_above}

pub den_above : (project : Project) (quantity : Quantity) (t : ℤ) → 0 < (quantity_in project quantity t).den
den_above project Head t = head_above (is_us project) t
den_above project Pressure t = pressure_above (is_us project) t
den_above project Flow t = flow_above project.options.unit t

pub low_end : (project : Project) (quantity : Quantity) (ticks : Interval) (count : ℤ)
    → IsRoundedDown (quantity_in project quantity ticks.lo) count → count ≡ (printed
    (quantity_in project quantity) ticks).lo
unfolding printed
low_end project quantity ticks count down =
    IsFloor-floor (in_ten_thousandths (quantity_in project quantity ticks.lo)) count
    (den_above project quantity ticks.lo) down

pub high_end : (project : Project) (quantity : Quantity) (ticks : Interval) (count : ℤ)
    → IsRoundedUp (quantity_in project quantity ticks.hi) count → count ≡ (printed
    (quantity_in project quantity) ticks).hi
unfolding printed
high_end project quantity ticks count up =
    IsCeiling-ceiling (in_ten_thousandths (quantity_in project quantity ticks.hi)) count
    (den_above project quantity ticks.hi) up

-- the printed ends print the interval
pub prints : (project : Project) (quantity : Quantity) (ticks : Interval)
    → Prints (quantity_in project quantity) ticks (printed (quantity_in project quantity) ticks)
unfolding printed
prints project quantity ticks =
    let x = in_ten_thousandths (quantity_in project quantity ticks.lo) in
    let y = in_ten_thousandths (quantity_in project quantity ticks.hi) in
    let low : pos 0 <ℤ pos x.den = (let p = den_above project quantity ticks.lo in omega (arith, ints, p)) in
    let high : pos 0 <ℤ pos y.den = (let p = den_above project quantity ticks.hi in omega (arith, ints, p)) in
    record {
      down = floor_is x.num (pos x.den) (floor x) low refl;
      up = ceiling_is y.num (neg_ℤ y.num) (pos y.den) (floor (negated y)) (ceiling y) high refl refl
          (floor_is (neg_ℤ y.num) (pos y.den) (floor (negated y)) high refl);
    }
