-- The emitters of junctions, one row further.
use Rattle.std.proofs.Common.{◌≡◌, ◌+◌, ◌*◌, ◌^◌, ◌<◌, ◌≤◌, ℕ, Bool, true, false, List, [], ◌∷◌, length, take, position}
use Rattle.std.proofs.Common.{Option, Some, None, slice_get, refl, sym, ap, ◌∙◌, subst, arith, inl, inr}
use Rattle.std.specs.Prelude.{slice_set, ℤ, pos, ◌≤ℤ◌}
use Rattle.std.specs.Str.{bytes_eq}
use Rattle.std.specs.Cmp.Lexicographic.{bytes_decides}
use Rattle.std.proofs.lemmas.List.{get_or-set_same, get_or-set_other, length-set}
use Rattle.hyd_num.specs.declared.link_capacities.Capacity.{Capacity}
use Rattle.hyd_num.specs.declared.flow_units.FlowUnit.{FlowUnit}
use Rattle.hyd_spec_lines.specs.Lines.{Row}
use Rattle.hyd_spec_lines.specs.declared.line.Line.{Line}
use Rattle.hyd_spec_lines.specs.declared.section.Section.{Section}
use Rattle.hyd_spec_lines.specs.declared.section.Section.TheVariants.{Emitters}
use Rattle.hyd_net.specs.NumberRanges.{Lies}
use Rattle.hyd_net.specs.declared.refusal_cause.Cause.TheVariants.{Limit}
use Rattle.hyd_network_rows.specs.Rows.{IsEmitterRow}
use Rattle.hyd_network_rows.specs.declared.demands_emitters_curves_and_statuses.EmitterRow.{EmitterRow}
use Rattle.hyd_spec_input.specs.SingleRows.{IsWrongByItself}
use Rattle.hyd_spec_input.specs.CapacitiesOutOfRange.{IsRefusedEmitter, IsRefusedIn}
use Rattle.hyd_spec_input.specs.Columns.{amount, word, or_empty, needed, id, up_to, ends, units}
use Rattle.hyd_spec_input.specs.Faults.{NoneIs, IsWrongWithOthers}
use Rattle.hyd_spec_input.specs.OptionsAndTimesInForce as force
use Rattle.hyd_spec_input.specs.OptionsAndTimesInForce.{last_where}
use Rattle.hyd_spec_input.specs.MeaningsAcrossRows.{number_in, last_naming, coefficient}
use Rattle.hyd_spec_input.specs.Project.{IsEmitter}
use Rattle.hyd_spec_input.specs.SectionsAndTables.{is_of, rows_of, own_id, node_rows}
use Rattle.hyd_spec_input.specs.FaultsWithOtherRows as others
use Rattle.hyd_theorems_on_input.proofs.RowsWithoutFault.{all_none, needed_none, within, section_is, none_from}
use Rattle.hyd_rows_and_tables.specs.RowsOfLines.{rows_at}
use Rattle.hyd_rows_and_tables.specs.IdTables.{AreFirsts, AreNone}
use Rattle.hyd_rows_and_tables.proofs.FirstWrongRowLemmas.{filter_more, filter_same}
use Rattle.hyd_rows_and_tables.proofs.WrongInSectionLemmas.{all_rows}
use Rattle.hyd_rows_and_tables.proofs.TableLemmas.{even}
use Rattle.hyd_build_nodes_patterns_and_options.specs.DemandsAndEmitters.{IsSetAt, value_of, AreEmitters}
use Rattle.hyd_theorems_on_input.proofs.OptionsAndTimesInForce.{last_where_push}
use Rattle.hyd_build_nodes_patterns_and_options.proofs.RowsWithoutFault.{alone, among}
use Rattle.hyd_build_nodes_patterns_and_options.proofs.ValuesByNameNumber.{set_named, default_at, known_there}

-- ---- the last row that names a junction, one row more

naming_here : (rows : List Row) (k : ℕ) (row : Row) → slice_get rows k ≡ Some row → is_of Emitters row ≡ true
    → last_naming (own_id row) (rows_of Emitters (take (k + 1) rows)) ≡ Some row
naming_here rows k row is member =
    let p : Row → Bool = λ (r : Row). bytes_eq (own_id row) (own_id r) in
    let same : p row ≡ true = (bytes_decides (own_id row) (own_id row)).1 refl in
    ap (last_where p) (filter_more (is_of Emitters) rows k row is member)
    ∙ last_where_push p (rows_of Emitters (take k rows)) row ∙ rw same refl

naming_other : (rows : List Row) (k : ℕ) (row : Row) (name : List ℕ) → slice_get rows k ≡ Some row
    → is_of Emitters row ≡ true → bytes_eq name (own_id row) ≡ false
    → last_naming name (rows_of Emitters (take (k + 1) rows)) ≡ last_naming name (rows_of Emitters (take k rows))
naming_other rows k row name is member other =
    let p : Row → Bool = λ (r : Row). bytes_eq name (own_id r) in
    ap (last_where p) (filter_more (is_of Emitters) rows k row is member)
    ∙ last_where_push p (rows_of Emitters (take k rows)) row ∙ rw other refl

-- ---- rows

set_is : (before : List (Option Capacity)) (number : ℕ) (value : Option Capacity) → number < length before
    → IsSetAt None before (slice_set before number value) number value
set_is before number value l = record {
  even = length-set before number value;
  here = get_or-set_same before number value None l;
  others = λ k apart. get_or-set_other before number k value None apart;
}

pub add_row : (rows : List Row) (k : ℕ) (row : Row) (names : List (List ℕ)) (before : List (Option Capacity))
    (number : ℕ) (value : Option Capacity) → AreEmitters rows k names before → slice_get rows k ≡ Some row
    → is_of Emitters row ≡ true → position (bytes_eq (own_id row)) names ≡ Some number → number < length before
    → IsEmitter (force.unit rows) (amount 1 row.words) value
    → AreEmitters rows (k + 1) names (slice_set before number value)
add_row rows k row names before number value was is member there l of =
    let Before : List ℕ → Option Capacity → Type 0 = λ name e. IsEmitter (force.unit rows)
    (coefficient (last_naming name (rows_of Emitters (take k rows)))) e in
    let After : List ℕ → Option Capacity → Type 0 = λ name e. IsEmitter (force.unit rows)
    (coefficient (last_naming name (rows_of Emitters (take (k + 1) rows)))) e in
    record {
      even = length-set before number value ∙ was.even;
      named = set_named None Before After names before (slice_set before number value) number (own_id row) value there
          (set_is before number value l) was.named
          (subst (λ (o : Option Row). IsEmitter (force.unit rows) (coefficient o) value)
          (sym (naming_here rows k row is member)) of)
          (λ name v other e. subst (λ (o : Option Row). IsEmitter (force.unit rows) (coefficient o) v)
          (sym (naming_other rows k row name is member other)) e);
    }

pub skip_row : (rows : List Row) (k : ℕ) (row : Row) (names : List (List ℕ)) (emitters : List (Option Capacity))
    → AreEmitters rows k names emitters → slice_get rows k ≡ Some row → is_of Emitters row ≡ false
    → AreEmitters rows (k + 1) names emitters
skip_row rows k row names emitters before is other =
    let same : rows_of Emitters (take (k + 1) rows) ≡ rows_of Emitters (take k rows) =
    filter_same (is_of Emitters) rows k row is other in
    let P : List Row → Type 0 = λ rs. (name : List ℕ) → IsEmitter (force.unit rows) (coefficient (last_naming name rs))
    (value_of None emitters (number_in names name)) in
    record { even = before.even; named = subst P (sym same) before.named }

pub before_rows : (text : List ℕ) (rows : List Row) (names : List (List ℕ)) (firsts : List Line)
    (emitters : List (Option Capacity)) → AreFirsts text (node_rows rows) names firsts
    → AreNone emitters (length firsts) → AreEmitters rows 0 names emitters
before_rows text rows names firsts emitters table none = record {
  even = none.count_is ∙ sym (even text (node_rows rows) names firsts table);
  named = λ name. subst (λ (e : Option Capacity). IsEmitter (force.unit rows) (pos 0) e)
      (sym (default_at None emitters none.none (number_in names name))) refl;
}

pub after_rows : (text : List ℕ) (lines : List Line) (k : ℕ) (names : List (List ℕ)) (emitters : List (Option Capacity))
    → AreEmitters (rows_at text lines) k names emitters → length lines ≤ k
    → AreEmitters (rows_at text lines) (length lines) names emitters
after_rows text lines k names emitters gathered l =
    let rows = rows_at text lines in
    let P : List Row → Type 0 = λ rs. (name : List ℕ) → IsEmitter (force.unit rows)
    (coefficient (last_naming name (rows_of Emitters rs))) (value_of None emitters (number_in names name)) in
    record {
      even = gathered.even;
      named = subst P (all_rows text lines k l ∙ sym (all_rows text lines (length lines) (omega arith))) gathered.named;
    }

-- ---- a row of emitters

pub id_is : (words : List (List ℕ)) (row : EmitterRow) → IsEmitterRow words row → word 0 words ≡ row.junction.now
id_is words row is = ap or_empty is.junction

pub junction_there : (text : List ℕ) (rows : List Row) (k : ℕ) (row : Row) (says : EmitterRow)
    (names : List (List ℕ)) (firsts : List Line) → NoneIs (IsWrongWithOthers rows) → slice_get rows k ≡ Some row
    → is_of Emitters row ≡ true → AreFirsts text (node_rows rows) names firsts → IsEmitterRow row.words says
    → position (bytes_eq says.junction.now) names ≡ None → ⊥
junction_there text rows k row says names firsts right is of table by none =
    known_there text rows names firsts (word 0 row.words) table (among Emitters rows k row right is of)
    (ap (λ (id : List ℕ). position (bytes_eq id) names) (id_is row.words says by) ∙ none)

in_range : (rows : List Row) (k : ℕ) (row : Row) → NoneIs (IsWrongByItself rows) → slice_get rows k ≡ Some row
    → is_of Emitters row ≡ true → Lies (pos 0) (units (10 ^ 6)) (amount 1 row.words)
in_range rows k row right is of =
    let each = all_none (needed id 0 row.words ∷ needed (up_to (10 ^ 6)) 1 row.words ∷ ends 2 row.words ∷ [])
    (alone Emitters rows k row right is of) in
    within (pos 0) (units (10 ^ 6)) (word 1 row.words) (needed_none (up_to (10 ^ 6)) 1 row.words each.1.0).right

pub not_negative : (rows : List Row) (k : ℕ) (row : Row) (says : EmitterRow) → NoneIs (IsWrongByItself rows)
    → slice_get rows k ≡ Some row → is_of Emitters row ≡ true → IsEmitterRow row.words says
    → pos 0 ≤ℤ says.coefficient.nano
not_negative rows k row says right is of by = rw by.coefficient (in_range rows k row right is of).at_least

pub at_most : (rows : List Row) (k : ℕ) (row : Row) (says : EmitterRow) → NoneIs (IsWrongByItself rows)
    → slice_get rows k ≡ Some row → is_of Emitters row ≡ true → IsEmitterRow row.words says
    → says.coefficient.nano ≤ℤ pos (10 ^ 6 * 10 ^ 9)
at_most rows k row says right is of by = rw by.coefficient (in_range rows k row right is of).at_most

pub accepted : (rows : List Row) (k : ℕ) (row : Row) (says : EmitterRow) (unit : FlowUnit)
    → NoneIs (IsWrongWithOthers rows) → slice_get rows k ≡ Some row → is_of Emitters row ≡ true
    → unit ≡ force.unit rows → IsEmitterRow row.words says → IsRefusedEmitter says.coefficient.nano unit → ⊥
accepted rows k row says unit right is of u by refused =
    let free : others.row_fault rows k row ≡ None = none_from (others.row_fault rows k row)
    (λ cause f. right k cause (record { row = row; row_is = is; fault = inl f })) in
    let here : IsRefusedEmitter (amount 1 row.words) (force.unit rows) = rw (← by.coefficient, ← u) refused in
    let P : Section → Type 0 = λ s. IsRefusedIn s rows (others.holds_action (take k rows) row) row in
    right k (Limit 13) (record {
      row = row;
      row_is = is;
      fault = inr (free, subst P (sym (section_is Emitters row of)) here, refl);
    })

pub emitter_is : (rows : List Row) (row : Row) (says : EmitterRow) (unit : FlowUnit) (value : Option Capacity)
    → unit ≡ force.unit rows → IsEmitterRow row.words says → IsEmitter unit says.coefficient.nano value
    → IsEmitter (force.unit rows) (amount 1 row.words) value
emitter_is rows row says unit value u by of =
    let P : FlowUnit → Type 0 = λ v. IsEmitter v (amount 1 row.words) value in
    let Q : ℤ → Type 0 = λ n. IsEmitter unit n value in
    subst P u (subst Q by.coefficient of)
