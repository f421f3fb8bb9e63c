-- The rows from which links are built are right, by themselves and with the others.
use Rattle.std.proofs.Common.{◌≡◌, ℕ, ◌≤◌, true, List, length, take, Some, slice_get, refl, sym, subst, inl, inr}
use Rattle.std.specs.List.{All}
use Rattle.hyd_spec_lines.specs.Lines.{Row, row_of}
use Rattle.hyd_spec_lines.specs.declared.section.Section.{Section}
use Rattle.hyd_net.specs.declared.refusal_cause.Cause.TheVariants.{Limit}
use Rattle.hyd_spec_input.specs.SingleRows as itself
use Rattle.hyd_spec_input.specs.CapacitiesOutOfRange.{IsRefusedIn, IsRefusedRow}
use Rattle.hyd_spec_input.specs.SectionsAndTables.{is_of}
use Rattle.hyd_spec_input.specs.FaultsWithOtherRows as others
use Rattle.hyd_theorems_on_input.proofs.RowsWithoutFault.{AreRight, section_is, none_from}
use Rattle.hyd_theorems_on_input.proofs.ListsByPlace.{source}
use Rattle.hyd_build_links_controls_and_rules.specs.RowsToBuildLinksFrom.{AreRightRowsForLinks, rows_from}
use Rattle.hyd_build_links_controls_and_rules.specs.declared.rows_to_build_links_from.RowsForLinks.{RowsForLinks}
use Rattle.hyd_theorems_on_input.proofs.NoEmptyWords.{no_empty_word}

pub rows_for_links_are_right : (text : List ℕ) (from : RowsForLinks) → AreRightRowsForLinks text from
    → AreRight (rows_from text from)
rows_for_links_are_right text from right =
    let rows = rows_from text from in
    record {
      by_itself = λ k row is. none_from (itself.row_fault rows k row)
          (λ cause e. right.by_itself k cause (record { row = row; row_is = is; fault = e }));
      with_others = λ k row is. none_from (others.row_fault rows k row)
          (λ cause e. right.with_others k cause (record { row = row; row_is = is; fault = inl e }));
      not_empty = λ k row is.
          let found = source (row_of text) from.lines.now k row is in
          let P : Row → Type 0 = λ r. All (λ w. 1 ≤ length w) r.words in
          subst P found.gives (no_empty_word _);
    }

-- no capacity of a row is out of range
pub free_row : (text : List ℕ) (from : RowsForLinks) (k : ℕ) (row : Row) (section : Section)
    → AreRightRowsForLinks text from → slice_get (rows_from text from) k ≡ Some row → is_of section row ≡ true
    → IsRefusedIn section (rows_from text from) (others.holds_action (take k (rows_from text from)) row) row → ⊥
free_row text from k row section right is of refused =
    let rows = rows_from text from in
    let P : Section → Type 0 = λ s. IsRefusedIn s rows (others.holds_action (take k rows) row) row in
    let own : IsRefusedRow rows (take k rows) row = subst P (sym (section_is section row of)) refused in
    right.with_others k (Limit 13) (record {
      row = row;
      row_is = is;
      fault = inr ((rows_for_links_are_right text from right).with_others k row is, own, refl);
    })
