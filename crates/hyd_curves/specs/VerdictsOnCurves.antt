-- The verdicts on curves, by the numbers that the curves' names have in a table.
use Rattle.std.specs.Prelude.{◌≡◌, ℕ, false, List, Option, Some, None, slice_index_or}
use Rattle.std.specs.Bool.{OnTrue, OnFalse}
use Rattle.hyd_num.specs.declared.flow_units.FlowUnit.{FlowUnit}
use Rattle.hyd_spec_lines.specs.Lines.{Row}
use Rattle.hyd_net.specs.declared.refusal_cause.Cause.TheVariants.{Range, Unsupported}
use Rattle.hyd_spec_input.specs.CapacitiesOutOfRange.{IsRefusedCurve}
use Rattle.hyd_spec_input.specs.MeaningsAcrossRows.{number_in}
use Rattle.hyd_spec_input.specs.SectionsAndTables.{Point}
use Rattle.hyd_spec_input.specs.FaultsWithOtherRows as others
use Rattle.hyd_curves.specs.CurveFaults.{pump_fault, valve_fault, IsRefusedPoints}
use Rattle.hyd_curves.specs.declared.verdicts_on_curves.CurveVerdict.{CurveVerdict}
use Rattle.hyd_curves.specs.declared.verdicts_on_curves.CurveVerdicts.{CurveVerdicts}

-- the verdict on a curve of no points, which nothing can have
abbrev pub on_no_points : CurveVerdict
on_no_points = record { pump = Some (Unsupported 4); is_refused = false; valve = Some Range }

-- the verdict of a number, where there is one
abbrev pub verdict_at : List CurveVerdict → Option ℕ → CurveVerdict
verdict_at each None = on_no_points
verdict_at each (Some number) = slice_index_or each number on_no_points

-- the verdict on the curve of a name in a table
abbrev pub verdict_named : List (List ℕ) → CurveVerdicts → List ℕ → CurveVerdict
verdict_named names verdicts name = verdict_at verdicts.each.items (number_in names name)

-- a verdict on points
pub record IsVerdictOf (unit : FlowUnit) (points : List Point) (verdict : CurveVerdict) : Type 0 where
  pub pump : verdict.pump ≡ pump_fault unit points
  pub refused : pump_fault unit points ≡ None → OnTrue verdict.is_refused (IsRefusedPoints unit points)
  pub accepted : pump_fault unit points ≡ None → OnFalse verdict.is_refused (IsRefusedPoints unit points → ⊥)
  pub valve : verdict.valve ≡ valve_fault unit points

-- a verdict on the curve of a name
pub record IsVerdictOn (rows : List Row) (name : List ℕ) (verdict : CurveVerdict) : Type 0 where
  pub pump : verdict.pump ≡ others.curve_of_pump rows (Some name)
  pub refused : others.curve_of_pump rows (Some name) ≡ None
      → OnTrue verdict.is_refused (IsRefusedCurve rows (Some name))
  pub accepted : others.curve_of_pump rows (Some name) ≡ None
      → OnFalse verdict.is_refused (IsRefusedCurve rows (Some name) → ⊥)
  pub valve : verdict.valve ≡ others.curve_of_valve rows (Some name)

-- for each name, the verdict of its number in a table is one on its curve
pub record AreVerdicts (rows : List Row) (names : List (List ℕ)) (verdicts : CurveVerdicts) : Type 0 where
  pub named : (name : List ℕ) → IsVerdictOn rows name (verdict_named names verdicts name)
