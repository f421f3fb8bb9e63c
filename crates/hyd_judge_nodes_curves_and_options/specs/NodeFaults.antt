-- What nodes are asked, by what a pass over the rows knows of them.
use Rattle.std.specs.Prelude.{◌≡◌, ℕ, ◌^◌, Bool, true, List, [], ◌∷◌, slice_get, Option, ℤ, pos, ◌+ℤ◌, ◌-ℤ◌, ◌*ℤ◌}
use Rattle.std.specs.List.{list_all}
use lib.Signed.{le_z}
use Rattle.hyd_num.specs.FileQuantity.{is_us_unit, head_ticks}
use Rattle.hyd_num.specs.declared.flow_units.FlowUnit.{FlowUnit}
use Rattle.hyd_spec_lines.specs.Lines.{Row}
use Rattle.hyd_spec_input.specs.Columns.{or_else, first, unless, amount, amount_or}
use Rattle.hyd_spec_input.specs.Curves.{is_within, is_head}
use Rattle.hyd_spec_input.specs.NodeAndLinkRows.{tank_curve}
use Rattle.hyd_spec_input.specs.FaultsWithOtherRows.{passes, known_pattern, known_curve, multipliers_of}
use Rattle.hyd_net.specs.NumberRanges.{least_level_difference}
use Rattle.hyd_net.specs.CountLimits.{most_junctions, most_reservoirs, most_tanks}
use Rattle.hyd_net.specs.declared.refusal_cause.Cause.{Cause}
use Rattle.hyd_net.specs.declared.refusal_cause.Cause.TheVariants.{DuplicateId, Range}
use Rattle.hyd_rows_and_tables.specs.QuantityRanges.{head_fault, junction_ranges}
use Rattle.hyd_judge_nodes_curves_and_options.specs.Extremes.{Bounds, pass}
use Rattle.hyd_curves.specs.CurveFaults.{tank_curve_fault}

-- what a junction is asked, by the unit, its count and whether its ID is new
abbrev pub junction_fault : List Row → FlowUnit → ℕ → Bool → List (List ℕ) → Option Cause
junction_fault rows unit count new words =
    first (passes most_junctions 4 count ∷ unless new DuplicateId ∷ known_pattern rows (slice_get words 3)
    ∷ junction_ranges unit (amount 1 words) (amount_or (pos 0) 2 words) ∷ [])

-- ---- reservoirs

abbrev pub is_head_ticks : ℤ → Type 0
is_head_ticks ticks = is_head ticks ≡ true

-- a head in ticks times a multiplier of billionths is in range
abbrev pub is_ticks_times : ℤ → ℤ → Bool
is_ticks_times ticks multiplier = is_within (10 ^ 26) (ticks *ℤ multiplier)

abbrev pub is_head_times : FlowUnit → ℤ → ℤ → Bool
is_head_times unit nano multiplier = is_ticks_times (head_ticks (is_us_unit unit) nano) multiplier

-- the head times each extreme of the multipliers
abbrev pub times_fault : FlowUnit → ℤ → Option Bounds → Option Cause
times_fault unit nano extremes = unless (pass (is_head_times unit nano) extremes) Range

-- the head, also times each multiplier
abbrev pub heads_fault : List Row → FlowUnit → ℤ → Option (List ℕ) → Option Cause
heads_fault rows unit nano pattern =
    or_else (head_fault unit nano) (unless (list_all (is_head_times unit nano) (multipliers_of rows pattern)) Range)

abbrev pub reservoir_fault : List Row → FlowUnit → ℕ → Bool → List (List ℕ) → Option Cause
reservoir_fault rows unit count new words =
    first (passes most_reservoirs 5 count ∷ unless new DuplicateId ∷ known_pattern rows (slice_get words 2)
    ∷ heads_fault rows unit (amount 1 words) (slice_get words 2) ∷ [])

-- ---- tanks

-- levels that are apart by the least level difference or more
abbrev pub apart_fault : FlowUnit → ℤ → Option Cause
apart_fault unit nano = unless (le_z (pos least_level_difference) (head_ticks (is_us_unit unit) nano)) Range

-- the bottom, the minimum and maximum level and the volume curve
abbrev pub levels_fault : List Row → FlowUnit → ℤ → ℤ → ℤ → Option (List ℕ) → Option Cause
levels_fault rows unit bottom minimum maximum curve =
    or_else (head_fault unit bottom)
    (or_else (apart_fault unit (maximum -ℤ minimum))
    (or_else (head_fault unit (bottom +ℤ maximum)) (tank_curve_fault rows unit minimum maximum curve)))

abbrev pub tank_fault : List Row → FlowUnit → ℕ → Bool → List (List ℕ) → Option Cause
tank_fault rows unit count new words =
    first (passes most_tanks 6 count ∷ unless new DuplicateId ∷ known_curve rows (tank_curve words)
    ∷ levels_fault rows unit (amount 1 words) (amount 3 words) (amount 4 words) (tank_curve words) ∷ [])
