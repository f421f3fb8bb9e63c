-- What links are asked, by what a pass over the rows knows of them.
use Rattle.std.specs.Prelude.{◌≡◌, ℕ, Bool, true, false, ◌||◌, List, [], ◌∷◌, Option, None, ◌⊎◌, if◌then◌else◌}
use Rattle.hyd_spec_lines.specs.Lines.{Row}
use Rattle.hyd_spec_lines.specs.declared.section.Section.{Section}
use Rattle.hyd_spec_lines.specs.declared.section.Section.TheVariants.{Pipes, Pumps, Valves, Curves}
use Rattle.hyd_num.specs.FileQuantity.{is_us_unit}
use Rattle.hyd_net.specs.CountLimits.{most_links}
use Rattle.hyd_net.specs.declared.refusal_cause.Cause.{Cause}
use Rattle.hyd_net.specs.declared.refusal_cause.Cause.TheVariants.{DuplicateId}
use Rattle.hyd_num.specs.declared.flow_units.FlowUnit.{FlowUnit}
use Rattle.hyd_rows_and_tables.specs.QuantityRanges.{flow_fault}
use Rattle.hyd_rows_and_tables.specs.IdTables.{IsEven, IsTable}
use Rattle.hyd_curves.specs.VerdictsOnCurves.{AreVerdicts}
use Rattle.hyd_judge_nodes_curves_and_options.specs.Patterns.{ArePatterns}
use Rattle.hyd_judge_links_controls_and_rules.specs.declared.judged_against.LinkTables.{LinkTables}
use Rattle.hyd_spec_input.specs.CapacitiesOutOfRange.{IsRefusedPipeBy, IsRefusedValve, IsRefusedCurve}
use Rattle.hyd_spec_input.specs.Columns.{or_else, first, unless, word, amount}
use Rattle.hyd_spec_input.specs.OptionsAndTimesInForce as force
use Rattle.hyd_spec_input.specs.SectionsAndTables.{node_rows, rows_of}
use Rattle.hyd_spec_input.specs.NodeAndLinkRows as alone
use Rattle.hyd_spec_input.specs.NodeAndLinkRows.{pipe_minor, is_throttle, is_general, valve_curve, valve_minor}
use Rattle.hyd_spec_input.specs.NodeAndLinkRows.{pump_curve}
use Rattle.hyd_spec_input.specs.NodeAndLinkRows.{pump_pattern}
use Rattle.hyd_spec_input.specs.FaultsWithOtherRows.{passes, known_node, known_curve, known_pattern, curve_of_pump}
use Rattle.hyd_spec_input.specs.FaultsWithOtherRows.{each_multiplier, is_speed, curve_of_valve, coefficient}

-- ---- all links

-- what a link is asked, by its count, whether its ID is new, and its nodes
abbrev pub ends_fault : List Row → ℕ → Bool → List ℕ → List ℕ → Option Cause
ends_fault rows count new from to =
    first (passes most_links 7 count ∷ unless new DuplicateId ∷ known_node rows from ∷ known_node rows to ∷ [])

abbrev pub link_fault : List Row → ℕ → Bool → List (List ℕ) → Option Cause
link_fault rows count new words = ends_fault rows count new (word 1 words) (word 2 words)

-- ---- pipes

-- a Hazen-Williams coefficient is in range
abbrev pub pipe_fault : List Row → ℕ → Bool → List (List ℕ) → Option Cause
pipe_fault rows count new words =
    or_else (link_fault rows count new words) (coefficient (force.has_hazen_williams rows) (amount 5 words))

abbrev pub IsRefusedPipeOf : List Row → Bool → List (List ℕ) → Type 0
IsRefusedPipeOf rows us words =
    IsRefusedPipeBy (force.has_hazen_williams rows) (amount 3 words) (amount 4 words) (amount 5 words)
    (pipe_minor words) us

-- ---- pumps

abbrev pub pump_fault : List Row → ℕ → Bool → List (List ℕ) → Option Cause
pump_fault rows count new words =
    first (link_fault rows count new words ∷ known_curve rows (pump_curve words)
    ∷ known_pattern rows (pump_pattern words) ∷ curve_of_pump rows (pump_curve words)
    ∷ each_multiplier is_speed rows (pump_pattern words) ∷ [])

-- ---- valves

-- the setting of a flow control valve is a flow
abbrev pub flow_setting : FlowUnit → List (List ℕ) → Option Cause
flow_setting unit words = if is_throttle words || is_general words then None else flow_fault unit (amount 5 words)

-- what a valve's curve and setting are asked
abbrev pub setting_fault : List Row → FlowUnit → List (List ℕ) → Option Cause
setting_fault rows unit words =
    first (known_curve rows (valve_curve words) ∷ curve_of_valve rows (valve_curve words) ∷ flow_setting unit words
    ∷ [])

abbrev pub valve_fault : List Row → FlowUnit → ℕ → Bool → List (List ℕ) → Option Cause
valve_fault rows unit count new words = or_else (link_fault rows count new words) (setting_fault rows unit words)

-- fully open, or at a throttle's setting; a general purpose valve has no capacity
abbrev pub IsRefusedValveOf : Bool → List (List ℕ) → Type 0
IsRefusedValveOf us words =
    (is_general words ≡ false)
    × (IsRefusedValve (amount 3 words) (valve_minor words) us
    ⊎ ((is_throttle words ≡ true) × IsRefusedValve (amount 3 words) (amount 5 words) us))

-- ---- tables

-- each table has a line for each ID
pub record AreEven (tables : LinkTables) : Type 0 where
  pub nodes : IsEven tables.nodes.now
  pub curves : IsEven tables.curves.now
  pub patterns : IsEven tables.patterns.now.table

-- the tables, the unit and the head loss formula of a file
pub record AreTables (text : List ℕ) (rows : List Row) (tables : LinkTables) : Type 0 where
  pub nodes : IsTable text (node_rows rows) tables.nodes.now
  pub curves : IsTable text (rows_of Curves rows) tables.curves.now
  pub verdicts : AreVerdicts rows tables.curves.now.names tables.verdicts.now
  pub patterns : ArePatterns text rows tables.patterns.now
  pub unit_is : tables.unit ≡ force.unit rows
  pub by_power_is : tables.by_power ≡ force.has_hazen_williams rows

-- ---- links by section

-- what a link is asked by itself, where losses are by Hazen-Williams or not
abbrev pub link_alone : Bool → Section → List (List ℕ) → Option Cause
link_alone by_power Pipes words = alone.pipe_by by_power words
link_alone by_power Pumps words = alone.pump words
link_alone by_power Valves words = alone.valve words
link_alone by_power _ words = None

-- what a link is asked among all rows
abbrev pub fault_among : Section → List Row → FlowUnit → ℕ → Bool → List (List ℕ) → Option Cause
fault_among Pipes rows unit count new words = pipe_fault rows count new words
fault_among Pumps rows unit count new words = pump_fault rows count new words
fault_among Valves rows unit count new words = valve_fault rows unit count new words
fault_among _ rows unit count new words = None

-- its capacity is out of range
abbrev pub IsRefusedLink : Section → List Row → FlowUnit → List (List ℕ) → Type 0
IsRefusedLink Pipes rows unit words = IsRefusedPipeOf rows (is_us_unit unit) words
IsRefusedLink Pumps rows unit words = IsRefusedCurve rows (pump_curve words)
IsRefusedLink Valves rows unit words = IsRefusedValveOf (is_us_unit unit) words
IsRefusedLink _ rows unit words = ⊥
