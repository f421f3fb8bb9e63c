-- What tanks, pumps and general purpose valves ask of a curve, by its points.
use Rattle.std.specs.Prelude.{◌≡◌, ℕ, Bool, false, ◌&&◌, List, Option, Some, None, if◌then◌else◌, ℤ}
use Rattle.hyd_num.specs.FileQuantity.{is_us_unit, head_ticks}
use Rattle.hyd_num.specs.declared.flow_units.FlowUnit.{FlowUnit}
use Rattle.hyd_spec_lines.specs.Lines.{Row}
use Rattle.hyd_spec_input.specs.Columns.{or_else, unless}
use Rattle.hyd_spec_input.specs.Curves.{is_volume_curve, volume_points, is_bent, is_pump_curve, are_flows, has_shutoff}
use Rattle.hyd_spec_input.specs.Curves.{is_pump_bend, begins_forward, begins_at_0, is_valve_bend, head_points, drop_of}
use Rattle.hyd_spec_input.specs.CapacitiesOutOfRange.{IsRefusedPump}
use Rattle.hyd_spec_input.specs.SectionsAndTables.{Point, curve_named}
use Rattle.hyd_net.specs.declared.refusal_cause.Cause.{Cause}
use Rattle.hyd_net.specs.declared.refusal_cause.Cause.TheVariants.{Range, Unsupported}

-- the curve of a tank whose levels go from a minimum to a maximum, in billionths of the unit that goes with flows
abbrev pub shape_fault : FlowUnit → ℤ → ℤ → List Point → Option Cause
shape_fault unit minimum maximum points =
    unless
    (is_volume_curve (head_ticks (is_us_unit unit) minimum) (head_ticks (is_us_unit unit) maximum)
    (volume_points (is_us_unit unit) points))
    Range

-- the curve that a tank names
abbrev pub tank_curve_fault : List Row → FlowUnit → ℤ → ℤ → Option (List ℕ) → Option Cause
tank_curve_fault rows unit minimum maximum None = None
tank_curve_fault rows unit minimum maximum (Some name) = shape_fault unit minimum maximum (curve_named rows name)

-- the curve of a pump: of a kind that is supported, and in range
abbrev pub is_pump_range : FlowUnit → List Point → Bool
is_pump_range unit points =
    if is_bent points then begins_forward points && is_pump_bend (head_points unit (is_us_unit unit) points)
    else (are_flows unit points && has_shutoff (is_us_unit unit) points)

abbrev pub pump_fault : FlowUnit → List Point → Option Cause
pump_fault unit points =
    or_else (unless (is_pump_curve points) (Unsupported 4)) (unless (is_pump_range unit points) Range)

-- the curve of a general purpose valve
abbrev pub valve_fault : FlowUnit → List Point → Option Cause
valve_fault unit points =
    unless (begins_at_0 points && is_valve_bend (head_points unit (is_us_unit unit) points)) Range

-- points that a pump can have, of one point or three, make a capacity out of range
abbrev pub IsRefusedPoints : FlowUnit → List Point → Type 0
IsRefusedPoints unit points = (is_bent points ≡ false) × IsRefusedPump (drop_of points) unit
