-- Junctions of a file without a fault.
use Rattle.std.proofs.Common.{◌≡◌, ◌+◌, ◌^◌, ◌<◌, ◌≤◌, ◌++◌, ℕ, true, List, [], ◌∷◌, map, length, take, position}
use Rattle.std.proofs.Common.{Option, Some, None, slice_get, refl, sym, ap, ◌∙◌, subst, arith, get_or}
use Rattle.std.specs.Prelude.{unsigned_abs, pos}
use Rattle.std.specs.Str.{bytes_eq}
use Rattle.std.proofs.lemmas.List.{length-map, get_or-map, take_all}
use Rattle.std.proofs.lemmas.Option.{get_or_from_slice_get, slice_get-get_or}
use Rattle.hyd_num.specs.FileQuantity.{flow_ticks}
use Rattle.hyd_num.specs.declared.link_capacities.Capacity.{Capacity}
use Rattle.hyd_num.specs.declared.flow_units.FlowUnit.{FlowUnit}
use Rattle.hyd_spec_lines.specs.WordsOfLines.{text_of}
use Rattle.hyd_spec_lines.specs.Lines.{Row}
use Rattle.hyd_spec_lines.specs.declared.line.Line.{Line}
use Rattle.hyd_spec_lines.specs.declared.section.Section.TheVariants.{Junctions, Demands, Emitters}
use Rattle.hyd_net.specs.ListView.{ListView}
use Rattle.hyd_net.specs.declared.nodes.Demand.{Demand}
use Rattle.hyd_net.specs.declared.nodes.Junction.{Junction}
use Rattle.hyd_network_rows.specs.Rows.{IsJunctionRow}
use Rattle.hyd_network_rows.specs.declared.junctions_and_reservoirs.JunctionRow.{JunctionRow}
use Rattle.hyd_spec_input.specs.Columns.{amount, amount_or, word, or_empty}
use Rattle.hyd_spec_input.specs.Faults.{NoneIs, IsWrongWithOthers}
use Rattle.hyd_spec_input.specs.OptionsAndTimesInForce as force
use Rattle.hyd_spec_input.specs.MeaningsAcrossRows.{pattern_ids, or_own, own_demand, emitter_of, demand_of_row}
use Rattle.hyd_spec_input.specs.MeaningsAcrossRows.{last_naming}
use Rattle.hyd_spec_input.specs.MeaningsAcrossRows.{coefficient}
use Rattle.hyd_spec_input.specs.Project.{Match, IsJunction, IsEmitter}
use Rattle.hyd_spec_input.specs.SectionsAndTables.{is_of, is_node, rows_of, rows_with, own_id, node_rows}
use Rattle.hyd_spec_input.specs.FaultsWithOtherRows as others
use Rattle.hyd_theorems_on_input.proofs.RowsWithoutFault.{all_none}
use Rattle.hyd_theorems_on_input.proofs.NodeRanges.{head_right, flow_right}
use Rattle.hyd_rows_and_tables.specs.IdTables.{AreFirsts}
use Rattle.hyd_build_nodes_patterns_and_options.specs.ReservoirsAndTanks.{IsSmall}
use Rattle.hyd_build_nodes_patterns_and_options.specs.DemandsAndEmitters.{demand_by, each, value_of, AreDemands, AreEmitters}
use Rattle.hyd_build_nodes_patterns_and_options.specs.WholeJunctions.{IsJunctionBy, AreParts}
use Rattle.hyd_build_nodes_patterns_and_options.specs.declared.junctions.Parts.{Parts}
use Rattle.hyd_build_nodes_patterns_and_options.proofs.RowsWithoutFault.{among, small_head, built_more}
use Rattle.hyd_build_nodes_patterns_and_options.proofs.ReservoirLemmas.{pattern_is}
use Rattle.hyd_build_nodes_patterns_and_options.proofs.ValuesByNameNumber.{own_there}
use Rattle.hyd_build_nodes_patterns_and_options.proofs.DemandLemmas.{small_flow, demands_in}

-- ---- a row of junctions

pub id_is : (words : List (List ℕ)) (row : JunctionRow) → IsJunctionRow words row → word 0 words ≡ row.id.now
id_is words row is = ap or_empty is.id

pub id_there : (text : List ℕ) (rows : List Row) (k : ℕ) (row : Row) (says : JunctionRow) (names : List (List ℕ))
    (firsts : List Line) → slice_get rows k ≡ Some row → is_of Junctions row ≡ true
    → AreFirsts text (node_rows rows) names firsts → IsJunctionRow row.words says
    → position (bytes_eq says.id.now) names ≡ None → ⊥
id_there text rows k row says names firsts is of table by none =
    let node : is_node row ≡ true = rw of refl in
    own_there text rows k row names firsts table is node
    (ap (λ (id : List ℕ). position (bytes_eq id) names) (id_is row.words says by) ∙ none)

pub elevation_is_small : (rows : List Row) (k : ℕ) (row : Row) (says : JunctionRow) (unit : FlowUnit)
    → NoneIs (IsWrongWithOthers rows) → slice_get rows k ≡ Some row → is_of Junctions row ≡ true
    → unit ≡ force.unit rows → IsJunctionRow row.words says → IsSmall unit says.elevation.nano
elevation_is_small rows k row says unit right is of u by =
    let each = all_none (others.junction_faults rows k row) (among Junctions rows k row right is of) in
    rw (u, by.elevation) (small_head _ (head_right rows (amount 1 row.words) each.1.1.1.0))

pub base_is_small : (rows : List Row) (k : ℕ) (row : Row) (says : JunctionRow) (unit : FlowUnit)
    → NoneIs (IsWrongWithOthers rows) → slice_get rows k ≡ Some row → is_of Junctions row ≡ true
    → unit ≡ force.unit rows → IsJunctionRow row.words says
    → unsigned_abs (flow_ticks unit says.base.nano) ≤ 10 ^ 15
base_is_small rows k row says unit right is of u by =
    let each = all_none (others.junction_faults rows k row) (among Junctions rows k row right is of) in
    rw (u, by.base) (small_flow _ (flow_right rows (amount_or (pos 0) 2 row.words) each.1.1.1.1.0))

-- ---- what belongs to it

same_read : {A : Type 0} (xs : List A) (i : ℕ) (d e : A) → i < length xs → get_or xs i d ≡ get_or xs i e
same_read xs i d e l = sym (get_or_from_slice_get xs i (get_or xs i d) e (slice_get-get_or xs i d l))

own_is : (rows : List Row) (row : Row) (says : JunctionRow) (unit : FlowUnit) (patterns : List (List ℕ))
    → unit ≡ force.unit rows → patterns ≡ pattern_ids rows → IsJunctionRow row.words says
    → demand_by unit patterns says.base.nano (text_of says.pattern) ≡ own_demand rows row
own_is rows row says unit patterns u p by =
    rw (u, p, by.base, by.pattern) (ap (λ (n : Option ℕ). record {
      base = flow_ticks (force.unit rows) (amount_or (pos 0) 2 row.words);
      pattern = n;
    }) (pattern_is rows (slice_get row.words 3)))

demands_named : (rows : List Row) (row : Row) (names : List (List ℕ)) (lists : List (ListView Demand)) (number : ℕ)
    (list : ListView Demand) → AreDemands rows (length rows) names (each lists)
    → position (bytes_eq (own_id row)) names ≡ Some number → number < length lists → list ≡ get_or lists number list
    → list.list ≡ map (demand_of_row rows) (rows_with (own_id row) (rows_of Demands rows))
demands_named rows row names lists number list are there l e =
    let all : take (length rows) rows ≡ rows = take_all (length rows) rows (omega arith) in
    let read : get_or (each lists) number [] ≡ list.list =
    get_or-map demands_in lists number list [] l ∙ ap demands_in (sym e) in
    let named : get_or (each lists) number []
    ≡ map (demand_of_row rows) (rows_with (own_id row) (rows_of Demands (take (length rows) rows))) =
    sym (ap (value_of [] (each lists)) there) ∙ are.named (own_id row) in
    sym read ∙ named ∙ ap (λ (rs : List Row). map (demand_of_row rows) (rows_with (own_id row)
    (rows_of Demands rs))) all

emitter_named : (rows : List Row) (row : Row) (names : List (List ℕ)) (emitters : List (Option Capacity)) (number : ℕ)
    (emitter : Option Capacity) → AreEmitters rows (length rows) names emitters
    → position (bytes_eq (own_id row)) names ≡ Some number → number < length emitters
    → emitter ≡ get_or emitters number emitter → IsEmitter (force.unit rows) (emitter_of rows row) emitter
emitter_named rows row names emitters number emitter are there l e =
    let all : take (length rows) rows ≡ rows = take_all (length rows) rows (omega arith) in
    let P : Option ℕ → Type 0 = λ o. IsEmitter (force.unit rows)
    (coefficient (last_naming (own_id row) (rows_of Emitters (take (length rows) rows)))) (value_of None emitters o) in
    let named : IsEmitter (force.unit rows)
    (coefficient (last_naming (own_id row) (rows_of Emitters (take (length rows) rows))))
    (get_or emitters number None) =
    subst P there (are.named (own_id row)) in
    let read : get_or emitters number None ≡ emitter = same_read emitters number None emitter l ∙ sym e in
    let Q : List Row → Type 0 = λ rs. IsEmitter (force.unit rows) (coefficient (last_naming (own_id row)
    (rows_of Emitters rs)))
    emitter in
    subst Q all (subst (IsEmitter (force.unit rows)
    (coefficient (last_naming (own_id row) (rows_of Emitters (take (length rows) rows))))) read named)

-- ---- one row further

pub junction_more : (text : List ℕ) (rows : List Row) (k : ℕ) (row : Row) (says : JunctionRow) (parts : Parts)
    (number : ℕ) (list : ListView Demand) (emitter : Option Capacity) (before after : List Junction) (j : Junction)
    → Match (IsJunction rows) (rows_of Junctions (take k rows)) before → slice_get rows k ≡ Some row
    → is_of Junctions row ≡ true → AreParts text rows (length rows) parts → IsJunctionRow row.words says
    → position (bytes_eq (own_id row)) parts.nodes.now.names ≡ Some number → number < length parts.nodes.now.names
    → list ≡ get_or parts.demands.now number list → emitter ≡ get_or parts.emitters.now number emitter
    → IsJunctionBy parts.unit parts.patterns.now says (get_or parts.demands.now number list).list
    (get_or parts.emitters.now number emitter) j → after ≡ before ++ j ∷ []
    → Match (IsJunction rows) (rows_of Junctions (take (k + 1) rows)) after
junction_more text rows k row says parts number list emitter before after j built is member are by there l d e read
    more =
    let P : ListView Demand → Type 0 = λ x. IsJunctionBy parts.unit parts.patterns.now says x.list
    (get_or parts.emitters.now number emitter) j in
    let Q : Option Capacity → Type 0 = λ x. IsJunctionBy parts.unit parts.patterns.now says list.list x j in
    let made : IsJunctionBy parts.unit parts.patterns.now says list.list emitter j = subst Q (sym e) (subst P
    (sym d) read) in
    let m : length (each parts.demands.now) ≡ length parts.demands.now = length-map parts.demands.now demands_in in
    let demands = demands_named rows row parts.nodes.now.names parts.demands.now number list are.demands there
    (omega (arith, l, m, are.demands.even)) d in
    let here = emitter_named rows row parts.nodes.now.names parts.emitters.now number emitter are.emitters there
    (omega (arith, l, are.emitters.even)) e in
    let junction : IsJunction rows row j = record {
      elevation = rw (← are.unit_is, ← by.elevation) made.elevation;
      demands = made.demands_are ∙ ap (or_own _) demands
          ∙ ap (λ (own : Demand). or_own own (map (demand_of_row rows) (rows_with (own_id row) (rows_of Demands rows))))
          (own_is rows row says parts.unit parts.patterns.now are.unit_is are.patterns by);
      emitter = subst (IsEmitter (force.unit rows) (emitter_of rows row)) (sym made.emitter_is) here;
    } in
    built_more Junctions (IsJunction rows) rows k row before after j built is member junction more
