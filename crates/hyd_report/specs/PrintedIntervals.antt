-- Printed intervals: the greatest numbers of four decimals at most, and the least ones at least, their ends.
-- Source: this program's format.
use Rattle.std.specs.Prelude.{◌≡◌, ◌≤◌, ◌^◌, ℤ, pos, ◌*ℤ◌, unsigned_abs}
use Rattle.hyd_num.specs.declared.spans.Span.{Span}
use Rattle.hyd_num.specs.Rational.{Rational, floor, ceiling}
use Rattle.hyd_num.specs.PrintedDecimals.{head_quantity, pressure_quantity, flow_quantity, decimal_text}
use Rattle.hyd_spec.specs.ProgramTypes.{Project}
use Rattle.hyd_spec.specs.DemandsHeadsAndPumpLifts.{is_us}
use Rattle.hyd_spec_certificates.specs.Interval.{Interval}
use Rattle.hyd_report.specs.declared.printed_intervals.Ends.{Ends}
use Rattle.hyd_report.specs.declared.printed_intervals.Quantity.{Quantity}
use Rattle.hyd_report.specs.declared.printed_intervals.Quantity.TheVariants.{Head, Pressure, Flow}

-- A value as a number of ten-thousandths.
abbrev pub in_ten_thousandths : Rational → Rational
in_ten_thousandths x = record { num = pos (10 ^ 4) *ℤ x.num; den = x.den }

-- The ends (ten-thousandths) that print an interval of ticks in the units of a quantity.
unfoldable pub printed : (ℤ → Rational) → Interval → Interval
printed quantity ticks = record {
  lo = floor (in_ten_thousandths (quantity ticks.lo));
  hi = ceiling (in_ten_thousandths (quantity ticks.hi));
}

-- The value of a number of ticks in the units of a network's file.
abbrev pub quantity_in : Project → Quantity → ℤ → Rational
quantity_in project Head ticks = head_quantity (is_us project) ticks
quantity_in project Pressure ticks = pressure_quantity (is_us project) ticks
quantity_in project Flow ticks = flow_quantity project.options.unit ticks

-- The texts are those of the ends of a printed interval (ten-thousandths).
pub record ArePrinted (interval : Interval) (ends : Ends) : Type 0 where
  pub low : ends.low ≡ decimal_text interval.lo
  pub high : ends.high ≡ decimal_text interval.hi

-- Flows that can be printed.
pub record IsSmall (flow : Span) : Type 0 where
  pub low : unsigned_abs flow.lo ≤ 10 ^ 27
  pub high : unsigned_abs flow.hi ≤ 10 ^ 27
