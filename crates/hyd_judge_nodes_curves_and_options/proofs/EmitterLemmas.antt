-- The emitters, one row further.
use Rattle.std.proofs.Common.{◌≡◌, ◌+◌, ℕ, Bool, true, false, List, take, slice_get, Option, Some, None, refl, sym, ◌∙◌}
use Rattle.std.proofs.Common.{◌==◌, true≢false}
use Rattle.hyd_num.specs.declared.flow_units.FlowUnit.{FlowUnit}
use Rattle.hyd_spec_lines.specs.Lines.{Row}
use Rattle.hyd_spec_lines.specs.declared.section.Section.{Section}
use Rattle.hyd_spec_lines.specs.declared.section.Section.TheVariants.{Emitters}
use Rattle.hyd_spec_input.specs.SingleRows as itself
use Rattle.hyd_spec_input.specs.SingleRows.{IsWrongByItself}
use Rattle.hyd_spec_input.specs.CapacitiesOutOfRange.{IsRefusedIn, IsRefusedEmitter}
use Rattle.hyd_spec_input.specs.Columns.{word, amount}
use Rattle.hyd_spec_input.specs.DemandEmitterCurvePatternAndStatusRows as row_form
use Rattle.hyd_spec_input.specs.Faults.{NoneIs}
use Rattle.hyd_spec_input.specs.OptionsAndTimesInForce as force
use Rattle.hyd_spec_input.specs.SectionsAndTables.{place, is_of}
use Rattle.hyd_spec_input.specs.FaultsWithOtherRows as others
use Rattle.hyd_spec_input.specs.FaultsWithOtherRows.{known_junction}
use Rattle.hyd_net.specs.declared.refusal_cause.Cause.{Cause}
use Rattle.hyd_rows_and_tables.specs.FirstWrongRow.{HasFound, IsVerdict, kept}
use Rattle.hyd_rows_and_tables.specs.WrongInSection.{IsWrongIn, IsFaultThen}
use Rattle.hyd_rows_and_tables.specs.declared.first_wrong.Found.{Found}
use Rattle.hyd_rows_and_tables.proofs.FirstWrongRowLemmas.{found_skip, found_kept}
use Rattle.hyd_rows_and_tables.proofs.WrongInSectionLemmas.{verdict_with_capacity, fault_then_alike, other_section}
use Rattle.hyd_theorems_on_input.proofs.RowsWithoutFault.{none_alone}

by_itself : (section : Section) (earlier : List (List (List ℕ))) (words : List (List ℕ)) (later : List (List (List ℕ)))
    → (place section == 7) ≡ true → itself.section_fault section earlier words later ≡ row_form.emitter words
by_itself Emitters earlier words later h = refl
by_itself _ earlier words later h = absurd (true≢false (sym h))

pub emitter_is_right : (rows : List Row) (k : ℕ) (row : Row) → NoneIs (IsWrongByItself rows)
    → slice_get rows k ≡ Some row → is_of Emitters row ≡ true → row_form.emitter row.words ≡ None
emitter_is_right rows k row right is member =
    sym (by_itself row.section _ row.words _ member)
    ∙ none_alone rows k row right is

fault_is : (section : Section) (rows : List Row) (k : ℕ) (row : Row) → (place section == 7) ≡ true
    → others.section_fault section rows k row ≡ known_junction rows (word 0 row.words)
fault_is Emitters rows k row h = refl
fault_is _ rows k row h = absurd (true≢false (sym h))

-- the capacity of an emitter's row
to_row : (section : Section) (rows : List Row) (acting : Bool) (row : Row) → (place section == 7) ≡ true
    → IsRefusedEmitter (amount 1 row.words) (force.unit rows) → IsRefusedIn section rows acting row
to_row Emitters rows acting row h refused = refused
to_row _ rows acting row h refused = absurd (true≢false (sym h))

from_row : (section : Section) (rows : List Row) (acting : Bool) (row : Row) → (place section == 7) ≡ true
    → IsRefusedIn section rows acting row → IsRefusedEmitter (amount 1 row.words) (force.unit rows)
from_row Emitters rows acting row h refused = refused
from_row _ rows acting row h refused = absurd (true≢false (sym h))

pub skip_row : (rows : List Row) (k : ℕ) (row : Row) (found : Option Found) → HasFound rows
    (IsWrongIn Emitters rows) k found
    → slice_get rows k ≡ Some row → is_of Emitters row ≡ false → HasFound rows (IsWrongIn Emitters rows) (k + 1) found
skip_row rows k row found before is other =
    found_skip rows (IsWrongIn Emitters rows) k found before (other_section Emitters rows k row is other)

pub add_row : (rows : List Row) (k : ℕ) (row : Row) (found : Option Found) (unit : FlowUnit) (cause : Option Cause)
    → HasFound rows (IsWrongIn Emitters rows) k found → slice_get rows k ≡ Some row → is_of Emitters row ≡ true
    → unit ≡ force.unit rows
    → IsFaultThen (known_junction rows (word 0 row.words)) (IsRefusedEmitter (amount 1 row.words) unit) cause
    → HasFound rows (IsWrongIn Emitters rows) (k + 1) (kept found k row.number cause)
add_row rows k row found unit cause before is member u then =
    let acting = others.holds_action (take k rows) row in
    let here : IsFaultThen (known_junction rows (word 0 row.words)) (IsRefusedEmitter (amount 1 row.words)
    (force.unit rows)) cause =
    rw (← u) then in
    let verdict : IsVerdict (IsWrongIn Emitters rows k) cause =
    verdict_with_capacity Emitters rows k row (known_junction rows (word 0 row.words)) cause is member
    (sym (fault_is row.section rows k row member))
    (fault_then_alike (known_junction rows (word 0 row.words)) (IsRefusedEmitter (amount 1 row.words) (force.unit rows))
    (IsRefusedIn row.section rows acting row) cause (to_row row.section rows acting row member)
    (from_row row.section rows acting row member) here) in
    found_kept rows (IsWrongIn Emitters rows) k row found cause before is verdict
