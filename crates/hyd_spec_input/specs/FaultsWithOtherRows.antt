-- A row that is right by itself and wrong with the others, its capacity aside.
-- Source: EPANET 2.2 User Manual, appendix C; ranges, limits and what is unsupported are this program's.
use Rattle.std.specs.Prelude.{ℕ, ◌+◌, ◌*◌, ◌^◌, Bool, true, false, ◌==◌, ◌&&◌, ◌||◌, not, nat_le, List, [], ◌∷◌, length}
use Rattle.std.specs.Prelude.{filter, sum_by, take, codes, Option, Some, None, slice_get, if◌then◌else◌, ℤ, pos, ◌+ℤ◌}
use Rattle.std.specs.Prelude.{◌-ℤ◌, ◌*ℤ◌}
use Rattle.std.specs.List.{list_all}
use Rattle.std.specs.Str.{bytes_eq}
use lib.Signed.{le_z}
use Rattle.hyd_num.specs.Numeral.{nano_of}
use Rattle.hyd_num.specs.FileQuantity.{is_us_unit, head_ticks, pressure_numerator, pressure_denominator}
use Rattle.hyd_spec_lines.specs.Headings.{is_one_of}
use Rattle.hyd_spec_lines.specs.Lines.{Row}
use Rattle.hyd_spec_lines.specs.declared.section.Section.{Section}
use Rattle.hyd_spec_lines.specs.declared.section.Section.TheVariants.{Junctions, Reservoirs, Tanks, Pipes, Pumps}
use Rattle.hyd_spec_lines.specs.declared.section.Section.TheVariants.{Valves, Demands, Emitters, Curves, Patterns}
use Rattle.hyd_spec_lines.specs.declared.section.Section.TheVariants.{Status, Controls, Rules, Options, Times}
use Rattle.hyd_spec_input.specs.Columns.{or_else, first, unless, of_word, word, amount, amount_or, word_is, word_is_of}
use Rattle.hyd_spec_input.specs.Columns.{status_words, units}
use Rattle.hyd_spec_input.specs.Keywords.{link_word, node_word, object_word, attribute_word}
use Rattle.hyd_spec_input.specs.NodeAndLinkRows.{has_check_valve, is_throttle, is_general, tank_curve, pump_curve}
use Rattle.hyd_spec_input.specs.NodeAndLinkRows.{pump_pattern, valve_curve}
use Rattle.hyd_spec_input.specs.DemandEmitterCurvePatternAndStatusRows.{multipliers}
use Rattle.hyd_spec_input.specs.RuleRows.{begins_with, stage_after, is_acting, is_rule}
use Rattle.hyd_spec_input.specs.SectionsAndTables.{is_of, rows_of, words_of, own_id, node_rows, link_rows, has_id}
use Rattle.hyd_spec_input.specs.SectionsAndTables.{node_named}
use Rattle.hyd_spec_input.specs.SectionsAndTables.{link_named, distinct, allows_node, allows_link, pattern_named}
use Rattle.hyd_spec_input.specs.SectionsAndTables.{curve_named}
use Rattle.hyd_spec_input.specs.OptionsAndTimesInForce.{unit, depends_on_pressure, minimum_pressure, required_pressure}
use Rattle.hyd_spec_input.specs.OptionsAndTimesInForce.{pressure_line, has_hazen_williams}
use Rattle.hyd_spec_input.specs.Curves.{is_within, is_head, is_flow, is_bent, is_pump_curve, are_flows, has_shutoff}
use Rattle.hyd_spec_input.specs.Curves.{is_pump_bend, begins_forward, begins_at_0, is_valve_bend, is_volume_curve, head_points}
use Rattle.hyd_spec_input.specs.Curves.{volume_points}
use Rattle.hyd_spec_input.specs.declared.ObjectWord.{ObjectWord}
use Rattle.hyd_spec_input.specs.declared.ObjectWord.TheVariants.{Node as NodeObject, Link as LinkObject}
use Rattle.hyd_spec_input.specs.declared.LinkWord.{LinkWord}
use Rattle.hyd_spec_input.specs.declared.LinkWord.TheVariants.{Link}
use Rattle.hyd_spec_input.specs.declared.NodeWord.{NodeWord}
use Rattle.hyd_spec_input.specs.declared.Attribute.{Attribute}
use Rattle.hyd_spec_input.specs.declared.Attribute.TheVariants.{Pressure, Level}
use Rattle.hyd_spec_input.specs.declared.RuleWord.{RuleWord}
use Rattle.hyd_spec_input.specs.declared.RuleWord.TheVariants.{Rule, And, Then, Else, Priority}
use Rattle.hyd_net.specs.NumberRanges.{head_limit, least_level_difference}
use Rattle.hyd_net.specs.CountLimits.{most_junctions, most_reservoirs, most_tanks, most_links, most_patterns}
use Rattle.hyd_net.specs.CountLimits.{most_multipliers, most_curves, most_points, most_demands, most_controls}
use Rattle.hyd_net.specs.CountLimits.{most_rules, most_parts}
use Rattle.hyd_net.specs.declared.refusal_cause.Cause.{Cause}
use Rattle.hyd_net.specs.declared.refusal_cause.Cause.TheVariants.{Syntax, Range, DuplicateId, UnknownName, Unsupported}
use Rattle.hyd_net.specs.declared.refusal_cause.Cause.TheVariants.{Limit}

-- ---- counts, IDs and names

-- a count is at most a limit
abbrev pub passes : ℕ → ℕ → ℕ → Option Cause
passes most detail n = unless (nat_le n most) (Limit detail)

-- no earlier row has the ID
abbrev pub new_in : List Row → Row → Option Cause
new_in earlier row = unless (not (has_id (own_id row) earlier)) DuplicateId

-- a name is that of a row that its word allows
abbrev pub known_as : (Row → Bool) → Option Row → Option Cause
known_as allowed None = Some UnknownName
known_as allowed (Some row) = unless (allowed row) UnknownName

abbrev pub known_node : List Row → List ℕ → Option Cause
known_node rows name = known_as (λ row. true) (node_named rows name)

abbrev pub known_junction : List Row → List ℕ → Option Cause
known_junction rows name = known_as (is_of Junctions) (node_named rows name)

abbrev pub node_by_word : List Row → Option NodeWord → List ℕ → Option Cause
node_by_word rows kind name = known_as (allows_node kind) (node_named rows name)

abbrev pub link_by_word : List Row → Option LinkWord → List ℕ → Option Cause
link_by_word rows kind name = known_as (allows_link kind) (link_named rows name)

-- a pattern, a curve is there where it is named
abbrev pub known_pattern : List Row → Option (List ℕ) → Option Cause
known_pattern rows name = of_word (λ name. unless (has_id name (rows_of Patterns rows)) UnknownName) name

abbrev pub known_curve : List Row → Option (List ℕ) → Option Cause
known_curve rows name = of_word (λ name. unless (has_id name (rows_of Curves rows)) UnknownName) name

-- ---- ranges

-- the file's units are feet and pounds a square inch
abbrev pub us : List Row → Bool
us rows = is_us_unit (unit rows)

abbrev pub head : List Row → ℤ → Option Cause
head rows nano = unless (is_head (head_ticks (us rows) nano)) Range

abbrev pub flow : List Row → ℤ → Option Cause
flow rows nano = unless (is_flow (unit rows) nano) Range

-- each multiplier of a pattern, where one is named
abbrev pub multipliers_of : List Row → Option (List ℕ) → List ℤ
multipliers_of rows None = []
multipliers_of rows (Some name) = pattern_named rows name

abbrev pub each_multiplier : (ℤ → Bool) → List Row → Option (List ℕ) → Option Cause
each_multiplier in_range rows name = unless (list_all in_range (multipliers_of rows name)) Range

-- ---- nodes

abbrev pub junction_faults : List Row → ℕ → Row → List (Option Cause)
junction_faults rows k row =
    passes most_junctions 4 (length (rows_of Junctions (take (k + 1) rows))) ∷ new_in (node_rows (take k rows)) row
    ∷ known_pattern rows (slice_get row.words 3) ∷ head rows (amount 1 row.words)
    ∷ flow rows (amount_or (pos 0) 2 row.words) ∷ []

abbrev pub junction : List Row → ℕ → Row → Option Cause
junction rows k row = first (junction_faults rows k row)

-- a head times a multiplier of billionths is in range
abbrev pub is_head_times : List Row → ℤ → ℤ → Bool
is_head_times rows nano multiplier = is_within (10 ^ 26) (head_ticks (us rows) nano *ℤ multiplier)

abbrev pub reservoir_faults : List Row → ℕ → Row → List (Option Cause)
reservoir_faults rows k row =
    passes most_reservoirs 5 (length (rows_of Reservoirs (take (k + 1) rows))) ∷ new_in (node_rows (take k rows)) row
    ∷ known_pattern rows (slice_get row.words 2) ∷ head rows (amount 1 row.words)
    ∷ each_multiplier (is_head_times rows (amount 1 row.words)) rows (slice_get row.words 2) ∷ []

abbrev pub reservoir : List Row → ℕ → Row → Option Cause
reservoir rows k row = first (reservoir_faults rows k row)

-- the curve of a tank covers its levels
abbrev pub volume_curve : List Row → Row → Option (List ℕ) → Option Cause
volume_curve rows row None = None
volume_curve rows row (Some name) =
    unless
    (is_volume_curve (head_ticks (us rows) (amount 3 row.words)) (head_ticks (us rows) (amount 4 row.words))
    (volume_points (us rows) (curve_named rows name)))
    Range

-- maximum and minimum level are apart by the least level difference or more
abbrev pub levels_apart : List Row → Row → Option Cause
levels_apart rows row =
    unless (le_z (pos least_level_difference) (head_ticks (us rows) (amount 4 row.words -ℤ amount 3 row.words))) Range

abbrev pub tank_faults : List Row → ℕ → Row → List (Option Cause)
tank_faults rows k row =
    passes most_tanks 6 (length (rows_of Tanks (take (k + 1) rows))) ∷ new_in (node_rows (take k rows)) row
    ∷ known_curve rows (tank_curve row.words) ∷ head rows (amount 1 row.words) ∷ levels_apart rows row
    ∷ head rows (amount 1 row.words +ℤ amount 4 row.words) ∷ volume_curve rows row (tank_curve row.words) ∷ []

abbrev pub tank : List Row → ℕ → Row → Option Cause
tank rows k row = first (tank_faults rows k row)

-- ---- links

-- what all links are asked
abbrev pub ends_faults : List Row → ℕ → Row → List (Option Cause)
ends_faults rows k row =
    passes most_links 7 (length (link_rows (take (k + 1) rows))) ∷ new_in (link_rows (take k rows)) row
    ∷ known_node rows (word 1 row.words) ∷ known_node rows (word 2 row.words) ∷ []

abbrev pub ends : List Row → ℕ → Row → Option Cause
ends rows k row = first (ends_faults rows k row)

-- a Hazen-Williams coefficient above 0, up to 10,000
abbrev pub is_coefficient : ℤ → Bool
is_coefficient nano = le_z (pos 1) nano && le_z nano (units (10 ^ 4))

abbrev pub coefficient : Bool → ℤ → Option Cause
coefficient by_power nano = if by_power then unless (is_coefficient nano) Range else None

abbrev pub pipe : List Row → ℕ → Row → Option Cause
pipe rows k row = or_else (ends rows k row) (coefficient (has_hazen_williams rows) (amount 5 row.words))

-- a pump's curve is of a kind that is supported, and in range
abbrev pub pump_curve_range : List Row → List ℕ → Option Cause
pump_curve_range rows name =
    if is_bent (curve_named rows name)
    then unless
    (begins_forward (curve_named rows name)
    && is_pump_bend (head_points (unit rows) (us rows) (curve_named rows name)))
    Range
    else unless (are_flows (unit rows) (curve_named rows name) && has_shutoff (us rows) (curve_named rows name)) Range

abbrev pub curve_of_pump : List Row → Option (List ℕ) → Option Cause
curve_of_pump rows None = None
curve_of_pump rows (Some name) =
    or_else (unless (is_pump_curve (curve_named rows name)) (Unsupported 4)) (pump_curve_range rows name)

-- a speed from 0 to 10
abbrev pub is_speed : ℤ → Bool
is_speed nano = le_z (pos 0) nano && le_z nano (units 10)

abbrev pub pump_faults : List Row → ℕ → Row → List (Option Cause)
pump_faults rows k row =
    ends rows k row ∷ known_curve rows (pump_curve row.words) ∷ known_pattern rows (pump_pattern row.words)
    ∷ curve_of_pump rows (pump_curve row.words) ∷ each_multiplier is_speed rows (pump_pattern row.words) ∷ []

abbrev pub pump : List Row → ℕ → Row → Option Cause
pump rows k row = first (pump_faults rows k row)

-- the curve of a general purpose valve, where it is one
abbrev pub curve_of_valve : List Row → Option (List ℕ) → Option Cause
curve_of_valve rows None = None
curve_of_valve rows (Some name) =
    unless
    (begins_at_0 (curve_named rows name)
    && is_valve_bend (head_points (unit rows) (us rows) (curve_named rows name)))
    Range

-- the setting of a flow control valve is a flow
abbrev pub flow_setting : List Row → Row → Option Cause
flow_setting rows row = if is_throttle row.words || is_general row.words then None else flow rows (amount 5 row.words)

abbrev pub valve_faults : List Row → ℕ → Row → List (Option Cause)
valve_faults rows k row =
    ends rows k row ∷ known_curve rows (valve_curve row.words) ∷ curve_of_valve rows (valve_curve row.words)
    ∷ flow_setting rows row ∷ []

abbrev pub valve : List Row → ℕ → Row → Option Cause
valve rows k row = first (valve_faults rows k row)

-- ---- states that are asked for

-- a number as the state of a link: a speed, a loss coefficient, or a flow
abbrev pub state_range : List Row → Row → ℤ → Option Cause
state_range rows link nano =
    if is_of Pumps link then unless (is_speed nano) Range
    else (if is_throttle link.words then unless (le_z (pos 0) nano && le_z nano (units (10 ^ 6))) Range
    else or_else (unless (le_z (pos 0) nano) Range) (flow rows nano))

abbrev pub is_status : List ℕ → Bool
is_status word = is_one_of status_words word

-- a pipe or a general purpose valve has no number as its state
abbrev pub takes_number : Row → Bool
takes_number link = is_of Pumps link || (is_of Valves link && not (is_general link.words))

abbrev pub is_check_valve : Row → Bool
is_check_valve link = is_of Pipes link && has_check_valve link.words

-- a link that a word sets; between its two faults stands what a level control asks of its node
abbrev pub set_link : List Row → Option Row → List ℕ → Option Cause → Option Cause
set_link rows None word between = None
set_link rows (Some link) word between =
    first (unless (is_status word || takes_number link) Syntax ∷ between
    ∷ unless (not (is_check_valve link)) (Unsupported 11)
    ∷ (if is_status word then None else state_range rows link (nano_of word)) ∷ [])

abbrev pub status_faults : List Row → ℕ → Row → List (Option Cause)
status_faults rows k row =
    link_by_word rows (Some Link) (word 0 row.words)
    ∷ set_link rows (link_named rows (word 0 row.words)) (word 1 row.words) None ∷ []

abbrev pub status : List Row → ℕ → Row → Option Cause
status rows k row = first (status_faults rows k row)

-- ---- data

abbrev pub demand_faults : List Row → ℕ → Row → List (Option Cause)
demand_faults rows k row =
    passes most_demands 10 (length (rows_of Demands (take (k + 1) rows))) ∷ known_junction rows (word 0 row.words)
    ∷ known_pattern rows (slice_get row.words 2) ∷ flow rows (amount 1 row.words) ∷ []

abbrev pub demand : List Row → ℕ → Row → Option Cause
demand rows k row = first (demand_faults rows k row)

abbrev pub emitter : List Row → ℕ → Row → Option Cause
emitter rows k row = known_junction rows (word 0 row.words)

abbrev pub curve_faults : List Row → ℕ → Row → List (Option Cause)
curve_faults rows k row =
    passes most_curves 9 (distinct (rows_of Curves (take (k + 1) rows)))
    ∷ passes most_points 9 (length (rows_of Curves (take (k + 1) rows))) ∷ []

abbrev pub curve : List Row → ℕ → Row → Option Cause
curve rows k row = first (curve_faults rows k row)

abbrev pub multiplier_count : List Row → ℕ
multiplier_count rows = sum_by (λ (row : Row). length (multipliers row.words)) rows

abbrev pub pattern_faults : List Row → ℕ → Row → List (Option Cause)
pattern_faults rows k row =
    passes most_patterns 8 (distinct (rows_of Patterns (take (k + 1) rows)))
    ∷ passes most_multipliers 8 (multiplier_count (rows_of Patterns (take (k + 1) rows))) ∷ []

abbrev pub pattern : List Row → ℕ → Row → Option Cause
pattern rows k row = first (pattern_faults rows k row)

-- ---- controls

-- a control's node is a tank
abbrev pub tank_at : List Row → Option Row → Option Cause
tank_at rows None = None
tank_at rows (Some node) = unless (is_of Tanks node) (Unsupported 8)

-- IF and a level
abbrev pub is_at_level : Row → Bool
is_at_level row = word_is 3 (codes "IF") row.words

abbrev pub control_node : List Row → Row → Option Cause
control_node rows row =
    if is_at_level row then node_by_word rows (node_word (word 4 row.words)) (word 5 row.words) else None

abbrev pub control_tank : List Row → Row → Option Cause
control_tank rows row = if is_at_level row then tank_at rows (node_named rows (word 5 row.words)) else None

abbrev pub control_level : List Row → Row → Option Cause
control_level rows row = if is_at_level row then head rows (amount 7 row.words) else None

abbrev pub control_faults : List Row → ℕ → Row → List (Option Cause)
control_faults rows k row =
    passes most_controls 11 (length (rows_of Controls (take (k + 1) rows)))
    ∷ link_by_word rows (link_word (word 0 row.words)) (word 1 row.words) ∷ control_node rows row
    ∷ set_link rows (link_named rows (word 1 row.words)) (word 2 row.words) (control_tank rows row)
    ∷ control_level rows row ∷ []

abbrev pub control : List Row → ℕ → Row → Option Cause
control rows k row = first (control_faults rows k row)

-- ---- rules

-- the line that names a rule; a clause or an action
abbrev pub names_rule : Row → Bool
names_rule row = is_rule (begins_with row.words)

abbrev pub is_part_word : Option RuleWord → Bool
is_part_word (Some Rule) = false
is_part_word (Some Priority) = false
is_part_word _ = true

abbrev pub is_part : Row → Bool
is_part row = is_part_word (begins_with row.words)

abbrev pub rules_in : List Row → List Row
rules_in rows = filter names_rule (rows_of Rules rows)

abbrev pub parts_in : List Row → List Row
parts_in rows = filter is_part (rows_of Rules rows)

-- a rule's ID is the second word of its line
abbrev pub has_rule : List ℕ → List Row → Bool
has_rule name [] = false
has_rule name (row ∷ rows) = bytes_eq name (word 1 row.words) || has_rule name rows

abbrev pub new_rule : List Row → Row → Option Cause
new_rule earlier row = unless (not (has_rule (word 1 row.words) earlier)) DuplicateId

-- pressure is that of a junction or a tank, a level that of a tank
abbrev pub can_show : Option Attribute → Row → Bool
can_show (Some Pressure) node = not (is_of Reservoirs node)
can_show (Some Level) node = is_of Tanks node
can_show _ node = true

abbrev pub object_known : List Row → Option ObjectWord → List (List ℕ) → Option Cause
object_known rows (Some (NodeObject kind)) words =
    known_as (λ node. allows_node (Some kind) node && can_show (attribute_word (word 3 words)) node)
    (node_named rows (word 2 words))
object_known rows (Some (LinkObject kind)) words = link_by_word rows (Some kind) (word 2 words)
object_known rows _ words = None

abbrev pub clause : List Row → List (List ℕ) → Option Cause
clause rows words = object_known rows (object_word (word 1 words)) words

abbrev pub action : List Row → List (List ℕ) → Option Cause
action rows words =
    or_else (link_by_word rows (link_word (word 1 words)) (word 2 words))
    (set_link rows (link_named rows (word 2 words)) (word 5 words) None)

-- a line holds an action, where an AND line would hold one or not
abbrev pub is_action_word : Option RuleWord → Bool → Bool
is_action_word (Some Then) acting = true
is_action_word (Some Else) acting = true
is_action_word (Some And) acting = acting
is_action_word _ acting = false

-- a line of a rule holds an action
abbrev pub holds_action : List Row → Row → Bool
holds_action earlier row = is_action_word (begins_with row.words) (is_acting (stage_after (words_of Rules earlier)))

abbrev pub rule_faults : List Row → ℕ → Row → List (Option Cause)
rule_faults rows k row =
    passes most_rules 12 (length (rules_in (take (k + 1) rows))) ∷ new_rule (rules_in (take k rows)) row ∷ []

abbrev pub part_faults : List Row → ℕ → Row → List (Option Cause)
part_faults rows k row =
    passes most_parts 12 (length (parts_in (take (k + 1) rows)))
    ∷ (if holds_action (take k rows) row then action rows row.words else clause rows row.words) ∷ []

abbrev pub rule_line : List Row → ℕ → Row → Option Cause
rule_line rows k row =
    if names_rule row then first (rule_faults rows k row)
    else (if is_part row then first (part_faults rows k row) else None)

-- ---- options

-- a pressure is a head
abbrev pub pressure : List Row → ℤ → Option Cause
pressure rows nano =
    unless (le_z (pressure_numerator (us rows) nano) (pos (head_limit * pressure_denominator (us rows)))) Range

-- where demands depend on pressure, the required pressure exceeds the minimum by a tenth of a unit at least; this is
-- judged at the greater of their lines
abbrev pub pressures_apart : List Row → Row → Option Cause
pressures_apart rows row =
    if depends_on_pressure rows && (row.number == pressure_line rows)
    then unless (le_z (minimum_pressure rows +ℤ pos (10 ^ 8)) (required_pressure rows)) Range else None

abbrev pub option : List Row → Row → Option Cause
option rows row =
    if word_is_of 0 (codes "MINIMUM" ∷ codes "REQUIRED" ∷ []) row.words
    then or_else (pressure rows (amount 2 row.words)) (pressures_apart rows row) else None

-- ---- all sections

-- what is wrong with a row among all rows, its capacity aside
abbrev pub section_fault : Section → List Row → ℕ → Row → Option Cause
section_fault Junctions rows k row = junction rows k row
section_fault Reservoirs rows k row = reservoir rows k row
section_fault Tanks rows k row = tank rows k row
section_fault Pipes rows k row = pipe rows k row
section_fault Pumps rows k row = pump rows k row
section_fault Valves rows k row = valve rows k row
section_fault Demands rows k row = demand rows k row
section_fault Emitters rows k row = emitter rows k row
section_fault Curves rows k row = curve rows k row
section_fault Patterns rows k row = pattern rows k row
section_fault Status rows k row = status rows k row
section_fault Controls rows k row = control rows k row
section_fault Rules rows k row = rule_line rows k row
section_fault Options rows k row = option rows row
section_fault Times rows k row = None

abbrev pub row_fault : List Row → ℕ → Row → Option Cause
row_fault rows k row = section_fault row.section rows k row
