-- What rows say of the network: numbers of names, values that later rows replace, groups of the lines of rules.
-- Source: EPANET 2.2 User Manual, appendix C.
use Rattle.std.specs.Prelude.{ℕ, Bool, true, false, ◌||◌, List, [], ◌∷◌, ◌++◌, map, filter, position, Option, Some}
use Rattle.std.specs.Prelude.{None, slice_get, if◌then◌else◌, ℤ, pos}
use Rattle.std.specs.List.{flat_map}
use Rattle.std.specs.Str.{bytes_eq}
use Rattle.hyd_num.specs.FileQuantity.{flow_ticks}
use Rattle.hyd_spec_lines.specs.Lines.{Row}
use Rattle.hyd_spec_lines.specs.declared.section.Section.TheVariants.{Junctions, Reservoirs, Tanks, Pipes, Pumps}
use Rattle.hyd_spec_lines.specs.declared.section.Section.TheVariants.{Valves, Demands, Emitters, Patterns, Status}
use Rattle.hyd_spec_input.specs.Columns.{word, or_empty, amount, amount_or}
use Rattle.hyd_spec_input.specs.NodeAndLinkRows.{tank_curve, pump_curve, valve_curve}
use Rattle.hyd_spec_input.specs.RuleRows.{begins_with, is_rule, until_rule, stage_by}
use Rattle.hyd_spec_input.specs.SectionsAndTables.{words_of, rows_of, rows_with, own_id, curve_named}
use Rattle.hyd_spec_input.specs.OptionsAndTimesInForce.{unit, last_where}
use Rattle.hyd_spec_input.specs.Curves.{is_bent}
use Rattle.hyd_spec_input.specs.declared.Stage.{Stage}
use Rattle.hyd_spec_input.specs.declared.Stage.TheVariants.{Outside, Asking, Acting, Otherwise}
use Rattle.hyd_spec_input.specs.declared.RuleWord.{RuleWord}
use Rattle.hyd_spec_input.specs.declared.RuleWord.TheVariants.{Priority}
use Rattle.hyd_net.specs.declared.nodes.Demand.{Demand}

-- ---- numbers of names

abbrev pub first_word : List (List ℕ) → List ℕ
first_word words = word 0 words

-- nodes are numbered junctions, reservoirs, tanks, and links pipes, pumps, valves
abbrev pub node_ids : List Row → List (List ℕ)
node_ids rows = map first_word (words_of Junctions rows ++ words_of Reservoirs rows ++ words_of Tanks rows)

abbrev pub tank_ids : List Row → List (List ℕ)
tank_ids rows = map first_word (words_of Tanks rows)

abbrev pub link_ids : List Row → List (List ℕ)
link_ids rows = map first_word (words_of Pipes rows ++ words_of Pumps rows ++ words_of Valves rows)

abbrev pub is_among : List ℕ → List (List ℕ) → Bool
is_among name [] = false
is_among name (id ∷ ids) = bytes_eq name id || is_among name ids

-- names without those that were there before, each where it first stands
abbrev pub new_names : List (List ℕ) → List (List ℕ) → List (List ℕ)
new_names seen [] = []
new_names seen (name ∷ names) =
    if is_among name seen then new_names seen names else name ∷ new_names (name ∷ seen) names

abbrev pub number_in : List (List ℕ) → List ℕ → Option ℕ
number_in ids name = position (bytes_eq name) ids

abbrev pub pattern_ids : List Row → List (List ℕ)
pattern_ids rows = new_names [] (map own_id (rows_of Patterns rows))

-- the number of a pattern that may be named
abbrev pub pattern_number : List Row → Option (List ℕ) → Option ℕ
pattern_number rows None = None
pattern_number rows (Some name) = number_in (pattern_ids rows) name

-- ---- curves that are named

abbrev pub as_list : Option (List ℕ) → List (List ℕ)
as_list None = []
as_list (Some name) = name ∷ []

-- the volume curves of tanks
abbrev pub shape_names : List Row → List (List ℕ)
shape_names rows = new_names [] (flat_map (λ (row : Row). as_list (tank_curve row.words)) (rows_of Tanks rows))

-- the curve of a pump's row, where it is one by straight lines
abbrev pub bent_name : List Row → Row → List (List ℕ)
bent_name rows row =
    if is_bent (curve_named rows (or_empty (pump_curve row.words))) then as_list (pump_curve row.words) else []

-- the curves by straight lines of pumps, then those of valves
abbrev pub bend_names : List Row → List (List ℕ)
bend_names rows =
    new_names []
    (flat_map (bent_name rows) (rows_of Pumps rows)
    ++ flat_map (λ (row : Row). as_list (valve_curve row.words)) (rows_of Valves rows))

-- ---- demands

-- a row of demands, with the words of the demand and of the pattern
abbrev pub demand_of_row : List Row → Row → Demand
demand_of_row rows row =
    record { base = flow_ticks (unit rows) (amount 1 row.words); pattern = pattern_number rows (slice_get row.words 2) }

abbrev pub own_demand : List Row → Row → Demand
own_demand rows row =
    record {
      base = flow_ticks (unit rows) (amount_or (pos 0) 2 row.words);
      pattern = pattern_number rows (slice_get row.words 3);
    }

abbrev pub or_own : Demand → List Demand → List Demand
or_own own [] = own ∷ []
or_own own (demand ∷ demands) = demand ∷ demands

-- the demands of a junction: the rows of DEMANDS that name it or, where there are none, its own
abbrev pub demands_of : List Row → Row → List Demand
demands_of rows row = or_own (own_demand rows row)
    (map (demand_of_row rows) (rows_with (own_id row) (rows_of Demands rows)))

-- ---- a later row wins

abbrev pub last_naming : List ℕ → List Row → Option Row
last_naming name rows = last_where (λ row. bytes_eq name (own_id row)) rows

-- the coefficient of an emitter, in billionths, 0 where there is none
abbrev pub coefficient : Option Row → ℤ
coefficient None = pos 0
coefficient (Some row) = amount 1 row.words

abbrev pub emitter_of : List Row → Row → ℤ
emitter_of rows row = coefficient (last_naming (own_id row) (rows_of Emitters rows))

-- the row of STATUS that a link starts by
abbrev pub status_row_of : List Row → Row → Option Row
status_row_of rows row = last_naming (own_id row) (rows_of Status rows)

-- ---- rules

-- the lines of each rule, its RULE line first
abbrev pub rule_groups : List (List (List ℕ)) → List (List (List (List ℕ)))
rule_groups [] = []
rule_groups (words ∷ lines) =
    if is_rule (begins_with words) then (words ∷ until_rule lines) ∷ rule_groups lines else rule_groups lines

-- the lines of a rule after which it stands at a stage
abbrev pub lines_at : (Stage → Bool) → Stage → List (List (List ℕ)) → List (List (List ℕ))
lines_at passes stage [] = []
lines_at passes stage (words ∷ lines) =
    if passes (stage_by stage (begins_with words)) then words
    ∷ lines_at passes (stage_by stage (begins_with words)) lines
    else lines_at passes (stage_by stage (begins_with words)) lines

abbrev pub is_asking : Stage → Bool
is_asking Asking = true
is_asking _ = false

abbrev pub is_doing : Stage → Bool
is_doing Acting = true
is_doing _ = false

abbrev pub is_otherwise : Stage → Bool
is_otherwise Otherwise = true
is_otherwise _ = false

-- IF and what joins it; THEN and what joins it; ELSE and what joins it
abbrev pub clause_lines : List (List (List ℕ)) → List (List (List ℕ))
clause_lines group = lines_at is_asking Outside group

abbrev pub then_lines : List (List (List ℕ)) → List (List (List ℕ))
then_lines group = lines_at is_doing Outside group

abbrev pub else_lines : List (List (List ℕ)) → List (List (List ℕ))
else_lines group = lines_at is_otherwise Outside group

-- the ID of a rule, on its RULE line
abbrev pub rule_id : List (List (List ℕ)) → List ℕ
rule_id [] = []
rule_id (words ∷ lines) = word 1 words

-- the line is a PRIORITY line
abbrev pub is_priority : Option RuleWord → Bool
is_priority (Some Priority) = true
is_priority _ = false

abbrev pub first_amount : List (List (List ℕ)) → Option ℤ
first_amount [] = None
first_amount (words ∷ lines) = Some (amount 1 words)

-- the number of a rule's PRIORITY line, in billionths
abbrev pub priority_of : List (List (List ℕ)) → Option ℤ
priority_of group = first_amount (filter (λ words. is_priority (begins_with words)) group)
