-- How intervals are printed, at which times, and what printed ends claim of a value. A lower end is the greatest number
-- of four decimals at most the value, an upper end the least at least it.
-- Source: this program's format.
use Rattle.std.specs.Prelude.{ℕ, ◌-◌, ◌%◌, ℤ, Bool, ◌&&◌, ◌==◌, nat_le, ◌*◌, ◌^◌, IsTrue}
use Rattle.hyd_num.specs.Rational.{Rational, is_at_most}
use Rattle.hyd_num.specs.PrintedDecimals.{head_quantity, pressure_quantity, flow_quantity, IsRoundedDown, IsRoundedUp}
use Rattle.hyd_spec.specs.ProgramTypes.{Project}
use Rattle.hyd_spec_certificates.specs.Interval.{Interval}
use Rattle.hyd_spec.specs.DemandsHeadsAndPumpLifts.{is_us}

-- ---- printed intervals

-- The ends (ten-thousandths) print an interval of ticks in the units of a quantity.
pub record Prints (quantity : ℤ → Rational) (ticks ends : Interval) : Type 0 where
  pub down : IsRoundedDown (quantity ticks.lo) ends.lo
  pub up : IsRoundedUp (quantity ticks.hi) ends.hi

-- The report start plus a multiple of the report step.
abbrev pub is_report_time : Project → ℕ → Bool
is_report_time project time =
    nat_le project.times.report_start time && ((time - project.times.report_start) % project.times.report == 0)

-- ---- values between printed ends

-- A value in the file's units lies between two printed ends (ten-thousandths).
pub record LiesBetween (ends : Interval) (x : Rational) : Type 0 where
  pub at_least : IsTrue (is_at_most (record { num = ends.lo; den = 10 ^ 4 }) x)
  pub at_most : IsTrue (is_at_most x (record { num = ends.hi; den = 10 ^ 4 }))

-- A quantity of a number of S-th parts of a tick.
abbrev pub at_part : ℕ → (ℤ → Rational) → ℤ → Rational
at_part S quantity parts = record { num = (quantity parts).num; den = (quantity parts).den * S }

-- A head or level (S-th parts of a head tick) lies between the printed ends, in feet or metres.
abbrev pub HeadLies : Project → ℕ → Interval → ℤ → Type 0
HeadLies project S ends h = LiesBetween ends (at_part S (head_quantity (is_us project)) h)

-- A pressure (S-th parts of a head tick) lies between the printed ends, in psi or metres.
abbrev pub PressureLies : Project → ℕ → Interval → ℤ → Type 0
PressureLies project S ends p = LiesBetween ends (at_part S (pressure_quantity (is_us project)) p)

-- A flow (S-th parts of a flow tick) lies between the printed ends, in the file's flow unit.
abbrev pub FlowLies : Project → ℕ → Interval → ℤ → Type 0
FlowLies project S ends q = LiesBetween ends (at_part S (flow_quantity project.options.unit) q)
