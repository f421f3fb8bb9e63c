-- The demands of junctions, one row further.
use Rattle.std.proofs.Common.{◌≡◌, ◌+◌, ◌^◌, ◌<◌, ◌≤◌, ◌++◌, ℕ, true, false, List, [], ◌∷◌, map, length, take, position}
use Rattle.std.proofs.Common.{Option, Some, None, slice_get, refl, sym, ap, ◌∙◌, subst, arith, get_or, append-nil}
use Rattle.std.specs.Prelude.{slice_set, slice_index_or, ℤ, unsigned_abs}
use Rattle.std.specs.Str.{bytes_eq}
use Rattle.std.specs.Cmp.Lexicographic.{bytes_decides}
use Rattle.std.proofs.lemmas.Int.{ints}
use Rattle.std.proofs.lemmas.List.{map-set, map-append, length-map, get_or-set_same, get_or-set_other, length-set}
use Rattle.std.proofs.lemmas.List.{get_or-map}
use Rattle.std.proofs.lemmas.List.Elements.{filter-append, All-map}
use Rattle.hyd_num.specs.FileQuantity.{flow_ticks}
use Rattle.hyd_num.specs.declared.flow_units.FlowUnit.{FlowUnit}
use Rattle.hyd_spec_lines.specs.WordsOfLines.{text_of}
use Rattle.hyd_spec_lines.specs.Lines.{Row}
use Rattle.hyd_spec_lines.specs.declared.line.Line.{Line}
use Rattle.hyd_spec_lines.specs.declared.section.Section.TheVariants.{Demands}
use Rattle.hyd_net.specs.ListView.{ListView}
use Rattle.hyd_net.specs.NumberRanges.{IsFlow}
use Rattle.hyd_net.specs.declared.nodes.Demand.{Demand}
use Rattle.hyd_network_rows.specs.Rows.{IsDemandRow}
use Rattle.hyd_network_rows.specs.declared.demands_emitters_curves_and_statuses.DemandRow.{DemandRow}
use Rattle.hyd_spec_input.specs.Columns.{amount, word, or_empty}
use Rattle.hyd_spec_input.specs.Faults.{NoneIs, IsWrongWithOthers}
use Rattle.hyd_spec_input.specs.OptionsAndTimesInForce as force
use Rattle.hyd_spec_input.specs.MeaningsAcrossRows.{number_in, pattern_ids, demand_of_row}
use Rattle.hyd_spec_input.specs.SectionsAndTables.{is_of, rows_of, rows_with, own_id, node_rows}
use Rattle.hyd_spec_input.specs.FaultsWithOtherRows as others
use Rattle.hyd_theorems_on_input.proofs.RowsWithoutFault.{all_none}
use Rattle.hyd_theorems_on_input.proofs.NodeRanges.{flow_right}
use Rattle.hyd_rows_and_tables.specs.RowsOfLines.{rows_at}
use Rattle.hyd_rows_and_tables.specs.IdTables.{AreFirsts, AreEmpty}
use Rattle.hyd_rows_and_tables.proofs.FirstWrongRowLemmas.{filter_more, filter_same}
use Rattle.hyd_rows_and_tables.proofs.WrongInSectionLemmas.{all_rows}
use Rattle.hyd_rows_and_tables.proofs.TableLemmas.{even}
use Rattle.hyd_build_nodes_patterns_and_options.specs.DemandsAndEmitters.{demand_by, each, IsSetAt, value_of, AreDemands}
use Rattle.hyd_build_nodes_patterns_and_options.proofs.RowsWithoutFault.{among}
use Rattle.hyd_build_nodes_patterns_and_options.proofs.ReservoirLemmas.{pattern_is}
use Rattle.hyd_build_nodes_patterns_and_options.proofs.ValuesByNameNumber.{set_named, default_at, known_there}

-- ---- lists

abbrev pub demands_in : ListView Demand → List Demand
demands_in list = list.list

pub one_more : (lists : List (ListView Demand)) (number : ℕ) (was now : ListView Demand) (demand : Demand)
    → number < length lists → was ≡ get_or lists number was → now.list ≡ was.list ++ demand ∷ []
    → IsSetAt [] (each lists) (each (slice_set lists number now)) number
    (slice_index_or (each lists) number [] ++ demand ∷ [])
one_more lists number was now demand l w n =
    let e : each (slice_set lists number now) ≡ slice_set (each lists) number now.list =
    map-set demands_in lists number now in
    let m : length (each lists) ≡ length lists = length-map lists demands_in in
    let old : get_or (each lists) number [] ≡ was.list = get_or-map demands_in lists number was [] l ∙ ap demands_in
    (sym w) in
    record {
      even = rw e (length-set (each lists) number now.list);
      here = rw (e, old) (get_or-set_same (each lists) number now.list [] (omega (arith, m, l)) ∙ n);
      others = λ k apart. rw e (get_or-set_other (each lists) number k now.list [] apart);
    }

pub before_rows : (text : List ℕ) (rows : List Row) (names : List (List ℕ)) (firsts : List Line)
    (lists : List (ListView Demand)) → AreFirsts text (node_rows rows) names firsts → AreEmpty lists (length firsts)
    → AreDemands rows 0 names (each lists)
before_rows text rows names firsts lists table empty = record {
  even = length-map lists demands_in ∙ empty.count_is ∙ sym (even text (node_rows rows) names firsts table);
  named = λ name. default_at [] (each lists) (All-map (λ (ds : List Demand). ds ≡ []) demands_in lists empty.none)
      (number_in names name);
}

pub after_rows : (text : List ℕ) (lines : List Line) (k : ℕ) (names : List (List ℕ)) (lists : List (List Demand))
    → AreDemands (rows_at text lines) k names lists → length lines ≤ k
    → AreDemands (rows_at text lines) (length lines) names lists
after_rows text lines k names lists gathered l =
    let rows = rows_at text lines in
    let P : List Row → Type 0 = λ rs. (name : List ℕ) → value_of [] lists (number_in names name)
    ≡ map (demand_of_row rows) (rows_with name (rows_of Demands rs)) in
    record {
      even = gathered.even;
      named = subst P (all_rows text lines k l ∙ sym (all_rows text lines (length lines) (omega arith))) gathered.named;
    }

-- ---- rows

more_here : (rows : List Row) (k : ℕ) (row : Row) → slice_get rows k ≡ Some row → is_of Demands row ≡ true
    → map (demand_of_row rows) (rows_with (own_id row) (rows_of Demands (take (k + 1) rows)))
    ≡ map (demand_of_row rows) (rows_with (own_id row) (rows_of Demands (take k rows))) ++ demand_of_row rows row ∷ []
more_here rows k row is member =
    let before = rows_of Demands (take k rows) in
    let name = own_id row in
    let same : bytes_eq name (own_id row) ≡ true = (bytes_decides name (own_id row)).1 refl in
    let kept : rows_with name (before ++ row ∷ []) ≡ rows_with name before ++ row ∷ [] =
    filter-append (λ (r : Row). bytes_eq name (own_id r)) before (row ∷ []) ∙ rw same refl in
    ap (λ (rs : List Row). map (demand_of_row rows) (rows_with name rs)) (filter_more
    (is_of Demands) rows k row is member)
    ∙ ap (map (demand_of_row rows)) kept ∙ map-append (demand_of_row rows) (rows_with name before) (row ∷ [])

none_here : (rows : List Row) (k : ℕ) (row : Row) (name : List ℕ) → slice_get rows k ≡ Some row
    → is_of Demands row ≡ true → bytes_eq name (own_id row) ≡ false
    → map (demand_of_row rows) (rows_with name (rows_of Demands (take (k + 1) rows)))
    ≡ map (demand_of_row rows) (rows_with name (rows_of Demands (take k rows)))
none_here rows k row name is member other =
    let before = rows_of Demands (take k rows) in
    let kept : rows_with name (before ++ row ∷ []) ≡ rows_with name before =
    filter-append (λ (r : Row). bytes_eq name (own_id r)) before (row ∷ []) ∙ rw other (append-nil
    (rows_with name before)) in
    ap (λ (rs : List Row). map (demand_of_row rows) (rows_with name rs)) (filter_more
    (is_of Demands) rows k row is member)
    ∙ ap (map (demand_of_row rows)) kept

pub add_row : (rows : List Row) (k : ℕ) (row : Row) (names : List (List ℕ)) (before after : List (List Demand))
    (number : ℕ) (demand : Demand) → AreDemands rows k names before → slice_get rows k ≡ Some row
    → is_of Demands row ≡ true → position (bytes_eq (own_id row)) names ≡ Some number
    → demand ≡ demand_of_row rows row
    → IsSetAt [] before after number (slice_index_or before number [] ++ demand ∷ [])
    → AreDemands rows (k + 1) names after
add_row rows k row names before after number demand was is member there d set =
    let Before : List ℕ → List Demand → Type 0 =
    λ name ds. ds ≡ map (demand_of_row rows) (rows_with name (rows_of Demands (take k rows))) in
    let After : List ℕ → List Demand → Type 0 =
    λ name ds. ds ≡ map (demand_of_row rows) (rows_with name (rows_of Demands (take (k + 1) rows))) in
    let old : slice_index_or before number [] ≡ map (demand_of_row rows) (rows_with (own_id row) (rows_of Demands
    (take k rows))) =
    sym (ap (value_of [] before) there) ∙ was.named (own_id row) in
    record {
      even = set.even ∙ was.even;
      named = set_named [] Before After names before after number (own_id row)
          (slice_index_or before number [] ++ demand ∷ []) there set was.named
          (rw (old, d) (sym (more_here rows k row is member)))
          (λ name v other e. e ∙ sym (none_here rows k row name is member other));
    }

pub skip_row : (rows : List Row) (k : ℕ) (row : Row) (names : List (List ℕ)) (lists : List (List Demand))
    → AreDemands rows k names lists → slice_get rows k ≡ Some row → is_of Demands row ≡ false
    → AreDemands rows (k + 1) names lists
skip_row rows k row names lists before is other =
    let same : rows_of Demands (take (k + 1) rows) ≡ rows_of Demands (take k rows) =
    filter_same (is_of Demands) rows k row is other in
    record {
      even = before.even;
      named = λ name. before.named name
          ∙ sym (ap (λ (rs : List Row). map (demand_of_row rows) (rows_with name rs)) same);
    }

-- ---- a row of demands

faults : (rows : List Row) (k : ℕ) (row : Row) → NoneIs (IsWrongWithOthers rows) → slice_get rows k ≡ Some row
    → is_of Demands row ≡ true → (others.known_junction rows (word 0 row.words) ≡ None)
    × (others.flow rows (amount 1 row.words) ≡ None)
faults rows k row right is of =
    let each = all_none (others.demand_faults rows k row) (among Demands rows k row right is of) in
    (each.1.0, each.1.1.1.0)

pub id_is : (words : List (List ℕ)) (row : DemandRow) → IsDemandRow words row → word 0 words ≡ row.junction.now
id_is words row is = ap or_empty is.junction

pub small_flow : (ticks : ℤ) → IsFlow ticks → unsigned_abs ticks ≤ 10 ^ 15
small_flow ticks h = grind (arith, ints, h.at_least, h.at_most)

pub base_is_small : (rows : List Row) (k : ℕ) (row : Row) (says : DemandRow) (unit : FlowUnit)
    → NoneIs (IsWrongWithOthers rows) → slice_get rows k ≡ Some row → is_of Demands row ≡ true
    → unit ≡ force.unit rows → IsDemandRow row.words says → unsigned_abs (flow_ticks unit says.base.nano) ≤ 10 ^ 15
base_is_small rows k row says unit right is of u by =
    rw (u, by.base) (small_flow _ (flow_right rows (amount 1 row.words) (faults rows k row right is of).1))

pub junction_there : (text : List ℕ) (rows : List Row) (k : ℕ) (row : Row) (says : DemandRow)
    (names : List (List ℕ)) (firsts : List Line) → NoneIs (IsWrongWithOthers rows) → slice_get rows k ≡ Some row
    → is_of Demands row ≡ true → AreFirsts text (node_rows rows) names firsts → IsDemandRow row.words says
    → position (bytes_eq says.junction.now) names ≡ None → ⊥
junction_there text rows k row says names firsts right is of table by none =
    known_there text rows names firsts (word 0 row.words) table (faults rows k row right is of).0
    (ap (λ (id : List ℕ). position (bytes_eq id) names) (id_is row.words says by) ∙ none)

pub demand_is : (rows : List Row) (row : Row) (says : DemandRow) (unit : FlowUnit) (patterns : List (List ℕ))
    → unit ≡ force.unit rows → patterns ≡ pattern_ids rows → IsDemandRow row.words says
    → demand_by unit patterns says.base.nano (text_of says.pattern) ≡ demand_of_row rows row
demand_is rows row says unit patterns u p by =
    rw (u, p, by.base, by.pattern) (ap (λ (n : Option ℕ). record {
      base = flow_ticks (force.unit rows) (amount 1 row.words);
      pattern = n;
    }) (pattern_is rows (slice_get row.words 2)))
