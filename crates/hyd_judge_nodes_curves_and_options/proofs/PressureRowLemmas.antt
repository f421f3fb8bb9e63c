-- Rows of pressures, one row further.
use Rattle.std.proofs.Common.{◌≡◌, ◌+◌, ℕ, ◌⊎◌, Bool, true, false, List, take, slice_get, Option, Some, None, refl, sym}
use Rattle.std.proofs.Common.{◌∙◌, inl, inr, ◌==◌, true≢false}
use Rattle.std.specs.Prelude.{codes}
use Rattle.std.proofs.lemmas.Bool.{cases_Bool}
use Rattle.hyd_num.specs.declared.flow_units.FlowUnit.{FlowUnit}
use Rattle.hyd_spec_lines.specs.WordsOfLines.{is_keyword}
use Rattle.hyd_spec_lines.specs.Lines.{Row, Reading, row_of}
use Rattle.hyd_spec_lines.specs.declared.line.Line.{Line}
use Rattle.hyd_spec_lines.specs.declared.section.Section.{Section}
use Rattle.hyd_spec_lines.specs.declared.section.Section.TheVariants.{Options}
use Rattle.hyd_spec_input.specs.SingleRows as itself
use Rattle.hyd_spec_input.specs.SingleRows.{IsWrongByItself}
use Rattle.hyd_spec_input.specs.CapacitiesOutOfRange.{IsRefusedIn}
use Rattle.hyd_spec_input.specs.Columns.{needed, number, word_is, is_option_of, is_option_keyword}
use Rattle.hyd_spec_input.specs.Faults.{NoneIs}
use Rattle.hyd_spec_input.specs.OptionsAndTimesInForce as force
use Rattle.hyd_spec_input.specs.OptionsAndTimesInForce.{begins, option_row}
use Rattle.hyd_spec_input.specs.OptionAndTimeRows as row_form
use Rattle.hyd_spec_input.specs.declared.OptionWord.TheVariants as at
use Rattle.hyd_spec_input.specs.SectionsAndTables.{place, is_of}
use Rattle.hyd_spec_input.specs.FaultsWithOtherRows as others
use Rattle.hyd_net.specs.declared.refusal_cause.Cause.{Cause}
use Rattle.hyd_theorems_on_input.proofs.RowsWithoutFault.{none_alone}
use Rattle.hyd_theorems_on_input.proofs.OptionsAndTimesInForce.{in_force}
use Rattle.hyd_rows_and_tables.specs.FirstWrongRow.{HasFound, kept}
use Rattle.hyd_rows_and_tables.specs.RowsOfLines.{row_in}
use Rattle.hyd_rows_and_tables.specs.WrongInSection.{IsWrongIn}
use Rattle.hyd_rows_and_tables.specs.declared.first_wrong.Found.{Found}
use Rattle.hyd_rows_and_tables.proofs.FirstWrongRowLemmas.{found_skip, found_kept}
use Rattle.hyd_rows_and_tables.proofs.WrongInSectionLemmas.{verdict_without_capacity, other_section}
use Rattle.hyd_judge_nodes_curves_and_options.specs.Options.{ArePressures, HasAmount, IsBound, bound_words}
use Rattle.hyd_judge_nodes_curves_and_options.specs.Options.{option_fault}
use Rattle.hyd_judge_nodes_curves_and_options.specs.declared.options.Pressures.{Pressures}
use Rattle.hyd_theorems_on_input.proofs.OptionRanges.{minimum_is, required_is, bound_number, about}

-- ---- a row of options that is right by itself

by_itself : (section : Section) (earlier : List (List (List ℕ))) (words : List (List ℕ)) (later : List (List (List ℕ)))
    → (place section == 13) ≡ true → itself.section_fault section earlier words later ≡ row_form.option words
by_itself Options earlier words later h = refl
by_itself _ earlier words later h = absurd (true≢false (sym h))

option_is_right : (rows : List Row) (k : ℕ) (row : Row) → NoneIs (IsWrongByItself rows)
    → slice_get rows k ≡ Some row → is_of Options row ≡ true → row_form.option row.words ≡ None
option_is_right rows k row right is member =
    sym (by_itself row.section _ row.words _ member)
    ∙ none_alone rows k row right is

-- ---- lines of pressures

minimum_number : (words : List (List ℕ)) → row_form.option words ≡ None → word_is 0 (codes "MINIMUM") words ≡ true
    → needed number 2 words ≡ None
minimum_number words right is = bound_number words (about words (codes "MINIMUM") at.Minimum right is minimum_is)

required_number : (words : List (List ℕ)) → row_form.option words ≡ None → word_is 0 (codes "REQUIRED") words ≡ true
    → needed number 2 words ≡ None
required_number words right is = bound_number words (about words (codes "REQUIRED") at.Required right is required_is)

-- a word that is one of two is the first or the second
either : (o : Option (List ℕ)) → is_option_of bound_words o ≡ true
    → (is_option_keyword (codes "MINIMUM") o ≡ true) ⊎ (is_option_keyword (codes "REQUIRED") o ≡ true)
either None e = absurd (true≢false (sym e))
either (Some w) e = elim (cases_Bool (is_keyword (codes "MINIMUM") w)) [
  | inl t ↦ inl t
  | inr f ↦ elim (cases_Bool (is_keyword (codes "REQUIRED") w)) [
    | inl t ↦ inr t
    | inr g ↦ (let none : false ≡ true = rw (f, g) at e in absurd (true≢false (sym none)))
  ]
]

pub bound_is_right : (rows : List Row) (k : ℕ) (row : Row) → NoneIs (IsWrongByItself rows)
    → slice_get rows k ≡ Some row → is_of Options row ≡ true → IsBound row.words
bound_is_right rows k row right is member = λ b.
    let e = option_is_right rows k row right is member in
    elim (either (slice_get row.words 0) b) [
      | inl m ↦ minimum_number row.words e m
      | inr r ↦ required_number row.words e r
    ]

-- the line in force
has_amount : (text : Reading) (rows : List Row) (key : List ℕ) (line : Option Line) → NoneIs (IsWrongByItself rows)
    → row_in text.text line ≡ option_row key rows
    → ((words : List (List ℕ)) → row_form.option words ≡ None → word_is 0 key words ≡ true
    → needed number 2 words ≡ None) → HasAmount text line
has_amount text rows key None right is has = tt
has_amount text rows key (Some line) right is has =
    let found = in_force rows Options (begins key) (row_of text.text line) (sym is) in
    has (row_of text.text line).words
    (option_is_right rows found.place (row_of text.text line) right found.is found.of) found.passes

pub minimum_has : (text : Reading) (rows : List Row) (line : Option Line) → NoneIs (IsWrongByItself rows)
    → row_in text.text line ≡ option_row (codes "MINIMUM") rows → HasAmount text line
minimum_has text rows line right is = has_amount text rows (codes "MINIMUM") line right is minimum_number

pub required_has : (text : Reading) (rows : List Row) (line : Option Line) → NoneIs (IsWrongByItself rows)
    → row_in text.text line ≡ option_row (codes "REQUIRED") rows → HasAmount text line
required_has text rows line right is = has_amount text rows (codes "REQUIRED") line right is required_number

-- ---- rows

fault_is : (section : Section) (rows : List Row) (k : ℕ) (row : Row) → (place section == 13) ≡ true
    → others.section_fault section rows k row ≡ others.option rows row
fault_is Options rows k row h = refl
fault_is _ rows k row h = absurd (true≢false (sym h))

no_capacity : (section : Section) (rows : List Row) (acting : Bool) (row : Row) → (place section == 13) ≡ true
    → IsRefusedIn section rows acting row → ⊥
no_capacity Options rows acting row h refused = refused
no_capacity _ rows acting row h refused = absurd (true≢false (sym h))

option_fault_is : (rows : List Row) (row : Row) (unit : FlowUnit) (p : Pressures) → unit ≡ force.unit rows
    → ArePressures rows p → option_fault unit p row.number row.words ≡ others.option rows row
option_fault_is rows row unit p u are = rw (u, are.depends, are.minimum, are.required, are.line) refl

pub skip_row : (rows : List Row) (k : ℕ) (row : Row) (found : Option Found)
    → HasFound rows (IsWrongIn Options rows) k found → slice_get rows k ≡ Some row → is_of Options row ≡ false
    → HasFound rows (IsWrongIn Options rows) (k + 1) found
skip_row rows k row found before is other =
    found_skip rows (IsWrongIn Options rows) k found before (other_section Options rows k row is other)

pub add_row : (rows : List Row) (k : ℕ) (row : Row) (found : Option Found) (unit : FlowUnit) (p : Pressures)
    (cause : Option Cause) → HasFound rows (IsWrongIn Options rows) k found → slice_get rows k ≡ Some row
    → is_of Options row ≡ true → unit ≡ force.unit rows → ArePressures rows p
    → cause ≡ option_fault unit p row.number row.words
    → HasFound rows (IsWrongIn Options rows) (k + 1) (kept found k row.number cause)
add_row rows k row found unit p cause before is member u are e =
    let verdict : cause ≡ others.row_fault rows k row =
    e ∙ option_fault_is rows row unit p u are ∙ sym (fault_is row.section rows k row member) in
    found_kept rows (IsWrongIn Options rows) k row found cause before is
    (verdict_without_capacity Options rows k row cause is member
    (no_capacity row.section rows (others.holds_action (take k rows) row) row member) verdict)
