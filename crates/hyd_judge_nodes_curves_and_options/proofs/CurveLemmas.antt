-- The curves, one row further.
use Rattle.std.proofs.Common.{◌≡◌, ◌+◌, ◌≤◌, ◌++◌, ℕ, Bool, true, false, not, List, [], ◌∷◌, take, length, slice_get}
use Rattle.std.proofs.Common.{Option, Some, if◌then◌else◌, refl, sym, ap, ◌∙◌, subst, arith, ◌==◌, true≢false}
use Rattle.std.proofs.Common.{length-append}
use Rattle.hyd_spec_lines.specs.Lines.{Row}
use Rattle.hyd_spec_lines.specs.declared.section.Section.{Section}
use Rattle.hyd_spec_lines.specs.declared.section.Section.TheVariants.{Curves as InCurves}
use Rattle.hyd_spec_input.specs.CapacitiesOutOfRange.{IsRefusedIn}
use Rattle.hyd_spec_input.specs.Columns.{first}
use Rattle.hyd_spec_input.specs.SectionsAndTables.{place, is_of, rows_of, own_id, has_id, distinct}
use Rattle.hyd_spec_input.specs.FaultsWithOtherRows as others
use Rattle.hyd_spec_input.specs.FaultsWithOtherRows.{passes}
use Rattle.hyd_net.specs.declared.refusal_cause.Cause.{Cause}
use Rattle.hyd_rows_and_tables.specs.FirstWrongRow.{kept}
use Rattle.hyd_rows_and_tables.specs.IdTables.{AreFirsts}
use Rattle.hyd_rows_and_tables.proofs.FirstWrongRowLemmas.{filter_more, filter_same, found_skip, found_kept}
use Rattle.hyd_rows_and_tables.proofs.TableLemmas.{even}
use Rattle.hyd_judge_nodes_curves_and_options.specs.Curves.{AreCurves}
use Rattle.hyd_rows_and_tables.specs.WrongInSection.{IsWrongIn}
use Rattle.hyd_judge_nodes_curves_and_options.specs.declared.curves.Curves.{Curves}
use Rattle.hyd_judge_nodes_curves_and_options.proofs.DistinctIdCounts.{distinct_more}
use Rattle.hyd_rows_and_tables.proofs.WrongInSectionLemmas.{verdict_without_capacity, other_section}

fault_is : (section : Section) (rows : List Row) (k : ℕ) (row : Row) → (place section == 8) ≡ true
    → others.section_fault section rows k row ≡ others.curve rows k row
fault_is InCurves rows k row h = refl
fault_is _ rows k row h = absurd (true≢false (sym h))

no_capacity : (section : Section) (rows : List Row) (acting : Bool) (row : Row) → (place section == 8) ≡ true
    → IsRefusedIn section rows acting row → ⊥
no_capacity InCurves rows acting row h refused = refused
no_capacity _ rows acting row h refused = absurd (true≢false (sym h))

pub skip_row : (text : List ℕ) (rows : List Row) (k : ℕ) (row : Row) (curves : Curves) → AreCurves text rows k curves
    → slice_get rows k ≡ Some row → is_of InCurves row ≡ false → AreCurves text rows (k + 1) curves
skip_row text rows k row curves before is other =
    let same : rows_of InCurves (take (k + 1) rows) ≡ rows_of InCurves (take k rows) =
    filter_same (is_of InCurves) rows k row is other in
    record {
      count = rw same before.count;
      small = omega (arith, before.small);
      table = (let P : List Row → Type 0 = λ rs. AreFirsts text rs curves.table.names curves.table.firsts.items in
          subst P (sym same) before.table);
      distinct = rw same before.distinct;
      few = omega (arith, before.few);
      found = found_skip rows (IsWrongIn InCurves rows) k curves.found before.found
          (other_section InCurves rows k row is other);
    }

pub add_row : (text : List ℕ) (rows : List Row) (k : ℕ) (row : Row) (curves next : Curves) (new : Bool)
    (fault : Option Cause) → AreCurves text rows k curves → slice_get rows k ≡ Some row → is_of InCurves row ≡ true
    → AreFirsts text (rows_of InCurves (take k rows) ++ row ∷ []) next.table.names next.table.firsts.items
    → new ≡ not (has_id (own_id row) (rows_of InCurves (take k rows)))
    → length next.table.names ≡ (if new then length curves.table.names + 1 else length curves.table.names)
    → length next.table.names ≤ length curves.table.names + 1 → next.count ≡ curves.count + 1
    → fault ≡ first (passes 1000 9 (length next.table.firsts.items) ∷ passes 100000 9 next.count ∷ [])
    → next.found ≡ kept curves.found k row.number fault → AreCurves text rows (k + 1) next
add_row text rows k row curves next new fault before is member table e names longer n f found =
    let more : rows_of InCurves (take (k + 1) rows) ≡ rows_of InCurves (take k rows) ++ row ∷ [] =
    filter_more (is_of InCurves) rows k row is member in
    let count : next.count ≡ length (rows_of InCurves (take (k + 1) rows)) =
    rw more (n ∙ ap (λ m. m + 1) before.count ∙ sym (length-append (rows_of InCurves (take k rows)) (row ∷ []))) in
    let ids : length next.table.names ≡ distinct (rows_of InCurves (take (k + 1) rows)) =
    rw more (distinct_more (rows_of InCurves (take k rows)) row (length curves.table.names)
    (length next.table.names) new before.distinct e names) in
    let lines : length next.table.firsts.items ≡ distinct (rows_of InCurves (take (k + 1) rows)) =
    sym (even text _ next.table.names next.table.firsts.items table) ∙ ids in
    let verdict : fault ≡ others.row_fault rows k row =
    f ∙ rw (lines, count) (sym (fault_is row.section rows k row member)) in
    record {
      count = count;
      small = omega (arith, before.small, n);
      table = (let P : List Row → Type 0 = λ rs. AreFirsts text rs next.table.names next.table.firsts.items in
          subst P (sym more) table);
      distinct = ids;
      few = omega (arith, before.few, longer);
      found = rw found (found_kept rows (IsWrongIn InCurves rows) k row curves.found fault before.found is
          (verdict_without_capacity InCurves rows k row fault is member
          (no_capacity row.section rows (others.holds_action (take k rows) row) row member) verdict));
    }
