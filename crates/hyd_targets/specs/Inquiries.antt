-- What questions about a target pressure rest on.
-- Source: this program's.
use Rattle.std.specs.Prelude.{◌≡◌, ◌≤◌, ◌^◌, ℤ, Bool, length, map, unsigned_abs}
use Rattle.hyd_num.specs.Rational.{Rational}
use Rattle.hyd_num.specs.FileQuantity.{pressure_numerator, pressure_denominator}
use Rattle.hyd_spec.specs.ProgramTypes.{Project, Junction}
use Rattle.hyd_spec.specs.DemandsHeadsAndPumpLifts.{is_us}
use Rattle.hyd_spec_certificates.specs.declared.LevelSpan.{LevelSpan}
use Rattle.hyd_spec_pressure_targets.specs.TargetHeads.{target_low, target_high}
use Rattle.hyd_first_period.specs.FirstPeriods.{IsReady}
use Rattle.hyd_targets.specs.declared.inquiry.Inquiry.{Inquiry}

-- a pressure of so many billionths of the file's unit, in head ticks
abbrev pub target_pressure : Bool → ℤ → Rational
target_pressure us nano = record { num = pressure_numerator us nano; den = pressure_denominator us }

-- the whole heads around a target at a junction
abbrev pub target_of : Rational → Junction → LevelSpan
target_of target junction =
    record { lo = target_low junction.elevation target; hi = target_high junction.elevation target }

-- the target of an inquiry
abbrev pub target_for : Project → Inquiry → Rational
target_for project inquiry = target_pressure (is_us project) inquiry.pressure.nano

-- an inquiry is one of the network: its parts have a place for each junction, and its targets are those of its pressure
pub record IsOpen (project : Project) (inquiry : Inquiry) : Type 0 where
  pub small : unsigned_abs inquiry.pressure.nano ≤ 10 ^ 13
  pub ready : IsReady project inquiry.first
  pub study : length inquiry.study.upper ≡ length project.junctions.list
  pub targets : inquiry.targets.items ≡ map (target_of (target_for project inquiry)) project.junctions.list
