-- Controls among all rows, one row further.
use Rattle.std.proofs.Common.{◌≡◌, ◌+◌, ◌++◌, ℕ, true, false, List, [], ◌∷◌, length, take, drop, slice_get, Option}
use Rattle.std.proofs.Common.{Some, None, refl, sym, ap, ◌∙◌, subst, arith, length-append}
use Rattle.hyd_spec_lines.specs.Lines.{Row}
use Rattle.hyd_spec_lines.specs.declared.section.Section.{Section}
use Rattle.hyd_spec_lines.specs.declared.section.Section.TheVariants.{Rules, Controls as InControls}
use Rattle.hyd_net.specs.declared.refusal_cause.Cause.{Cause}
use Rattle.hyd_spec_input.specs.SingleRows as itself
use Rattle.hyd_spec_input.specs.SingleRows.{IsWrongByItself}
use Rattle.hyd_spec_input.specs.CapacitiesOutOfRange.{IsRefusedIn, IsRefusedSetting}
use Rattle.hyd_spec_input.specs.Columns.{word}
use Rattle.hyd_spec_input.specs.ControlRows as row_form
use Rattle.hyd_spec_input.specs.Faults.{NoneIs}
use Rattle.hyd_spec_input.specs.Keywords.{link_word}
use Rattle.hyd_spec_input.specs.SectionsAndTables.{is_of, rows_of, words_of, link_named}
use Rattle.hyd_spec_input.specs.FaultsWithOtherRows as others
use Rattle.hyd_spec_input.specs.declared.LinkWord.{LinkWord}
use Rattle.hyd_theorems_on_input.proofs.RowsWithoutFault.{section_is, none_alone}
use Rattle.hyd_rows_and_tables.specs.FirstWrongRow.{IsVerdict, kept}
use Rattle.hyd_rows_and_tables.specs.WrongInSection.{IsWrongIn, IsFaultThen}
use Rattle.hyd_rows_and_tables.proofs.FirstWrongRowLemmas.{filter_more, filter_same, found_skip, found_kept}
use Rattle.hyd_rows_and_tables.proofs.WrongInSectionLemmas.{verdict_with_capacity, other_section}
use Rattle.hyd_judge_links_controls_and_rules.specs.Controls.{AreControls, IsControlFault, commanded_fault}
use Rattle.hyd_judge_links_controls_and_rules.specs.declared.controls.Controls.{Controls}

pub control_is_right : (rows : List Row) (k : ℕ) (row : Row) → NoneIs (IsWrongByItself rows)
    → slice_get rows k ≡ Some row → is_of InControls row ≡ true → row_form.control row.words ≡ None
control_is_right rows k row right is member =
    let P : Section → Type 0 = λ s. itself.section_fault s (words_of Rules (take k rows)) row.words
    (words_of Rules (drop (k + 1) rows)) ≡ None in
    subst P (section_is InControls row member)
    (none_alone rows k row right is)

-- ---- one control

pub commanded_none : (rows : List Row) (link row : Row) (between : Option Cause)
    → between ≡ others.control_tank rows row
    → others.set_link rows (Some link) (word 2 row.words) between ≡ None → others.control_level rows row ≡ None
    → commanded_fault rows link row ≡ None
commanded_none rows link row between b set level =
    let P : Option Cause → Type 0 = λ o. others.set_link rows (Some link) (word 2 row.words) o ≡ None in
    let at : others.set_link rows (Some link) (word 2 row.words) (others.control_tank rows row)
    ≡ None = subst P b set in
    rw (at, level) refl

pub link_unknown : (rows : List Row) (count : ℕ) (row : Row) (kind : LinkWord) (name : List ℕ) (cause : Cause)
    → others.passes 10000 11 count ≡ None → link_word (word 0 row.words) ≡ Some kind → name ≡ word 1 row.words
    → others.link_by_word rows (Some kind) name ≡ Some cause → IsControlFault rows count row (Some cause)
link_unknown rows count row kind name cause few k n unknown =
    let at : others.link_by_word rows (link_word (word 0 row.words)) (word 1 row.words) ≡ Some cause =
    rw (k, ← n) unknown in
    rw (few, at) refl

pub node_unknown : (rows : List Row) (count : ℕ) (row : Row) (kind : LinkWord) (name : List ℕ) (cause : Cause)
    → others.passes 10000 11 count ≡ None → link_word (word 0 row.words) ≡ Some kind → name ≡ word 1 row.words
    → others.link_by_word rows (Some kind) name ≡ None → others.control_node rows row ≡ Some cause
    → IsControlFault rows count row (Some cause)
node_unknown rows count row kind name cause few k n known unknown =
    let at : others.link_by_word rows (link_word (word 0 row.words)) (word 1 row.words) ≡ None = rw (k, ← n) known in
    rw (few, at, unknown) refl

pub both_known : (rows : List Row) (count : ℕ) (row : Row) (kind : LinkWord) (name : List ℕ) (link : Row)
    (cause : Option Cause) → others.passes 10000 11 count ≡ None → link_word (word 0 row.words) ≡ Some kind
    → name ≡ word 1 row.words → others.link_by_word rows (Some kind) name ≡ None → link_named rows name ≡ Some link
    → others.control_node rows row ≡ None
    → IsFaultThen (commanded_fault rows link row) (IsRefusedSetting rows (Some link) (word 2 row.words)) cause
    → IsControlFault rows count row cause
both_known rows count row kind name link cause few k n known named node then =
    let at : others.link_by_word rows (link_word (word 0 row.words)) (word 1 row.words) ≡ None = rw (k, ← n) known in
    let here : link_named rows (word 1 row.words) ≡ Some link = rw (← n) named in
    rw (few, at, node, here) then

-- ---- rows

pub skip_row : (rows : List Row) (k : ℕ) (row : Row) (controls : Controls) → AreControls rows k controls
    → slice_get rows k ≡ Some row → is_of InControls row ≡ false → AreControls rows (k + 1) controls
skip_row rows k row controls before is other =
    let same : rows_of InControls (take (k + 1) rows) ≡ rows_of InControls (take k rows) =
    filter_same (is_of InControls) rows k row is other in
    record {
      count = rw same before.count;
      small = omega (arith, before.small);
      found = found_skip rows (IsWrongIn InControls rows) k controls.found before.found
          (other_section InControls rows k row is other);
    }

verdict_is : (rows : List Row) (k : ℕ) (row : Row) (count : ℕ) (cause : Option Cause) → slice_get rows k ≡ Some row
    → is_of InControls row ≡ true → count ≡ length (rows_of InControls (take (k + 1) rows))
    → IsControlFault rows count row cause → IsVerdict (IsWrongIn InControls rows k) cause
verdict_is rows k row count cause is member n then =
    let acting = others.holds_action (take k rows) row in
    let P : Section → Type 0 = λ s. IsFaultThen (others.section_fault s rows k row) (IsRefusedIn s rows acting row)
    cause in
    let all : IsFaultThen (others.control rows k row)
    (IsRefusedSetting rows (link_named rows (word 1 row.words)) (word 2 row.words)) cause =
    subst (λ (m : ℕ). IsControlFault rows m row cause) n then in
    verdict_with_capacity InControls rows k row (others.row_fault rows k row) cause is member refl
    (subst P (sym (section_is InControls row member)) all)

pub add_row : (rows : List Row) (k : ℕ) (row : Row) (controls next : Controls) (cause : Option Cause)
    → AreControls rows k controls → slice_get rows k ≡ Some row → is_of InControls row ≡ true
    → next.count ≡ controls.count + 1 → IsControlFault rows next.count row cause
    → next.found ≡ kept controls.found k row.number cause → AreControls rows (k + 1) next
add_row rows k row controls next cause before is member n then found =
    let more : rows_of InControls (take (k + 1) rows) ≡ rows_of InControls (take k rows) ++ row ∷ [] =
    filter_more (is_of InControls) rows k row is member in
    let count : next.count ≡ length (rows_of InControls (take (k + 1) rows)) =
    rw more (n ∙ ap (λ m. m + 1) before.count
    ∙ sym (length-append (rows_of InControls (take k rows)) (row ∷ []))) in
    record {
      count = count;
      small = omega (arith, before.small, n);
      found = rw found (found_kept rows (IsWrongIn InControls rows) k row controls.found cause before.found is
          (verdict_is rows k row next.count cause is member count then));
    }
