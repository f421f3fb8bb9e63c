-- The head loss formula, one line further.
use Rattle.std.proofs.Common.{◌≡◌, Bool, true, false, List, ◌∷◌, codes, Option, Some, None, refl, sym, inl, inr}
use Rattle.std.proofs.lemmas.Bool.{cases_Bool}
use Rattle.hyd_spec_lines.specs.Lines.{Row}
use Rattle.hyd_spec_lines.specs.declared.section.Section.TheVariants.{Options}
use Rattle.hyd_spec_input.specs.Columns.{word_is}
use Rattle.hyd_spec_input.specs.OptionsAndTimesInForce.{begins, say, or_earlier, option_row}
use Rattle.hyd_spec_input.specs.SectionsAndTables.{is_of}
use Rattle.hyd_network_rows.specs.FormulaByLines.{formula_after, formula_with}

abbrev reads : Row → Bool
reads row = word_is 1 (codes "H-W") row.words

later_none : (o : Option Row) → or_earlier o None ≡ o
later_none None = refl
later_none (Some row) = refl

later_some : (before : Bool) (o : Option Row) (row : Row)
    → say (reads row) reads o ≡ say before reads (or_earlier o (Some row))
later_some before None row = refl
later_some before (Some later) row = refl

pub one_further : (before : Bool) (row : Row) (rows : List Row)
    → formula_with (formula_after before row) rows ≡ formula_with before (row ∷ rows)
one_further before row rows = elim (cases_Bool (is_of Options row)) [
  | inl t ↦ elim (cases_Bool (begins (codes "HEADLOSS") row)) [
    | inl h ↦ rw (t, h) (later_some before (option_row (codes "HEADLOSS") rows) row)
    | inr f ↦ rw (t, f, later_none (option_row (codes "HEADLOSS") rows)) refl
  ]
  | inr f ↦ rw f refl
]
