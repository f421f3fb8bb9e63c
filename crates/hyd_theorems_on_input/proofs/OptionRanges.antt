-- Options of a file without a fault are in range.
use Rattle.std.proofs.Common.{◌≡◌, ℕ, ◌*◌, ◌^◌, Bool, true, false, List, [], ◌∷◌, Option, Some, None, refl, sym, ◌∙◌}
use Rattle.std.proofs.Common.{subst, arith, inl, inr}
use Rattle.std.specs.Prelude.{slice_get, ◌==◌, codes, ℤ, pos, ◌+ℤ◌, ◌≤ℤ◌, ⊤}
use Rattle.std.proofs.lemmas.Bool.{and_parts, eq-eqb, cases_lt}
use Rattle.std.proofs.lemmas.Int.{ints}
use lib.Signed.{le_z}
use Rattle.hyd_num.specs.FileQuantity.{pressure_numerator, pressure_denominator}
use Rattle.hyd_num.specs.declared.decimals.Decimal.{Decimal}
use Rattle.hyd_spec_lines.specs.Lines.{Row}
use Rattle.hyd_spec_lines.specs.WordsOfLines.{is_keyword}
use Rattle.hyd_spec_lines.specs.Headings.{is_one_of}
use Rattle.hyd_spec_lines.specs.declared.section.Section.TheVariants.{Options as OptionsSection}
use Rattle.hyd_net.specs.NumberRanges.{IsUpTo}
use Rattle.hyd_net.specs.declared.refusal_cause.Cause.TheVariants.{Range}
use Rattle.hyd_net.specs.NetworkRanges.{IsPressure, HasOptions}
use Rattle.hyd_net.specs.declared.options.Options.{Options}
use Rattle.hyd_net.specs.declared.project.Project.{Project}
use Rattle.hyd_spec_input.specs.Columns.{first, or_else, unless, needed, ends, one_of, not_negative, up_to, word}
use Rattle.hyd_spec_input.specs.Columns.{amount, units, word_is, word_is_of, is_option_of, is_option_keyword, of_needed}
use Rattle.hyd_spec_input.specs.Columns.{number}
use Rattle.hyd_spec_input.specs.Keywords.{option_word, option_words, more_option_words, unused_option, unused_words}
use Rattle.hyd_spec_input.specs.Keywords.{more_unused_words, last_unused_words}
use Rattle.hyd_spec_input.specs.declared.OptionWord.{OptionWord}
use Rattle.hyd_spec_input.specs.declared.OptionWord.TheVariants as at
use Rattle.hyd_spec_input.specs.OptionAndTimeRows.{demand_words, demand_value, demand_line, bound_line, option_about}
use Rattle.hyd_spec_input.specs.OptionAndTimeRows.{option}
use Rattle.hyd_spec_input.specs.OptionsAndTimesInForce.{begins, begins_both, option_row, option_row_of}
use Rattle.hyd_spec_input.specs.OptionsAndTimesInForce.{depends_on_pressure}
use Rattle.hyd_spec_input.specs.OptionsAndTimesInForce.{demand_multiplier, minimum_pressure, required_pressure}
use Rattle.hyd_spec_input.specs.OptionsAndTimesInForce.{default_pattern}
use Rattle.hyd_spec_input.specs.OptionsAndTimesInForce.{pressure_line}
use Rattle.hyd_spec_input.specs.FaultsWithOtherRows.{us, pressure, pressures_apart}
use Rattle.hyd_spec_input.specs.SectionsAndTables.{pattern_named}
use Rattle.hyd_spec_input.specs.Project.{IsOptions, IsProject}
use Rattle.hyd_lemmas.proofs.BooleanTests.{le_z-yes}
use Rattle.hyd_theorems_on_input.proofs.ListsByPlace.{all_from}
use Rattle.hyd_theorems_on_input.proofs.RowsWithoutFault.{AreRight, right_alone, right_among, or_none, all_none}
use Rattle.hyd_theorems_on_input.proofs.RowsWithoutFault.{unless_none}
use Rattle.hyd_theorems_on_input.proofs.RowsWithoutFault.{needed_none, within, in_range}
use Rattle.hyd_theorems_on_input.proofs.OptionsAndTimesInForce.{IsInForce, in_force, say_is, word_is_keyword}
use Rattle.hyd_theorems_on_input.proofs.OptionsAndTimesInForce.{first_named_same}
use Rattle.hyd_theorems_on_input.proofs.OptionsAndTimesInForce.{is_one_of_same}
use Rattle.hyd_theorems_on_input.proofs.PatternsAndCurvesByNumber.{has_pattern}

-- ---- lines

pub unused_same : (a word : List ℕ) → is_keyword a word ≡ true → unused_option word ≡ unused_option a
unused_same a word e = rw (
  is_one_of_same unused_words a word e,
  is_one_of_same more_unused_words a word e,
  is_one_of_same last_unused_words a word e,
) refl

pub option_word_same : (a word : List ℕ) → is_keyword a word ≡ true → option_word word ≡ option_word a
unfolding option_word
option_word_same a word e = rw (
  first_named_same option_words a word e,
  first_named_same more_option_words a word e,
  unused_same a word e,
) refl

pub about : (words : List (List ℕ)) (a : List ℕ) (meaning : OptionWord) → option words ≡ None → word_is 0 a words ≡ true
    → option_word a ≡ Some meaning
    → option_about (Some meaning) words ≡ None
about words a meaning line first is =
    let e : option_word (word 0 words) ≡ Some meaning =
    option_word_same a (word 0 words) (word_is_keyword 0 a words first) ∙ is in
    subst (λ (o : Option OptionWord). option_about o words ≡ None) e line

pub demand_is : option_word (codes "DEMAND") ≡ Some at.Demand
unfolding option_word is_keyword
demand_is = refl

pub minimum_is : option_word (codes "MINIMUM") ≡ Some at.Minimum
unfolding option_word is_keyword
minimum_is = refl

pub required_is : option_word (codes "REQUIRED") ≡ Some at.Required
unfolding option_word is_keyword
required_is = refl

-- ---- the multiplier of demands

multiplier_in : (words : List (List ℕ)) → word_is 1 (codes "MULTIPLIER") words ≡ true → demand_line words ≡ None
    → IsUpTo (10 ^ 6) (amount 2 words)
multiplier_in words is line =
    let each = all_none (needed (one_of demand_words) 1 words ∷ needed (demand_value words) 2 words ∷ ends 3 words
    ∷ []) line in
    let value : up_to (10 ^ 6) (word 2 words) ≡ None =
    rw is at (needed_none (demand_value words) 2 words each.1.0).right in
    within (pos 0) (units (10 ^ 6)) (word 2 words) value

multiplier_right : (rows : List Row) → AreRight rows → IsUpTo (10 ^ 6) (demand_multiplier rows)
multiplier_right rows right = say_is (IsUpTo (10 ^ 6)) (pos (10 ^ 9)) (λ row. amount 2 row.words)
    (option_row_of (codes "DEMAND") (codes "MULTIPLIER") rows)
    (record { at_least = omega (arith, ints); at_most = omega (arith, ints) }) (λ row e.
    let found = in_force rows OptionsSection (begins_both (codes "DEMAND") (codes "MULTIPLIER")) row e in
    let both = and_parts (word_is 0 (codes "DEMAND") row.words) (word_is 1 (codes "MULTIPLIER") row.words)
    found.passes in
    multiplier_in row.words both.1 (about row.words (codes "DEMAND") at.Demand
    (right_alone rows OptionsSection found.place row right found.is found.of) both.0 demand_is))

-- ---- pressures

-- a pressure in billionths is at least 0, and a head
record IsPressureOf (us : Bool) (nano : ℤ) : Type 0 where
  not_negative : pos 0 ≤ℤ nano
  at_most : pressure_numerator us nano ≤ℤ pos (10 ^ 17 * pressure_denominator us)

-- a line of one of the two pressures
abbrev pressure_words : List (List ℕ)
pressure_words = codes "MINIMUM" ∷ codes "REQUIRED" ∷ []

is_one : (a : List ℕ) (o : Option (List ℕ)) → is_one_of pressure_words a ≡ true → is_option_keyword a o ≡ true
    → is_option_of pressure_words o ≡ true
is_one a None one is = is
is_one a (Some w) one is = is_one_of_same pressure_words a w is ∙ one

minimum_one : is_one_of pressure_words (codes "MINIMUM") ≡ true
unfolding is_keyword
minimum_one = refl

required_one : is_one_of pressure_words (codes "REQUIRED") ≡ true
unfolding is_keyword
required_one = refl

-- what is asked of such a line with the others
judged : (rows : List Row) (a : List ℕ) (row : Row) → AreRight rows → is_one_of pressure_words a ≡ true
    → IsInForce rows OptionsSection (begins a) row
    → (pressure rows (amount 2 row.words) ≡ None) × (pressures_apart rows row ≡ None)
judged rows a row right one found =
    let is : word_is_of 0 pressure_words row.words ≡ true = is_one a (slice_get row.words 0) one found.passes in
    let faults : or_else (pressure rows (amount 2 row.words)) (pressures_apart rows row) ≡ None =
    rw is at (right_among rows OptionsSection found.place row right found.is found.of) in
    or_none (pressure rows (amount 2 row.words)) (pressures_apart rows row) faults

bound_in : (words : List (List ℕ)) → bound_line words ≡ None → pos 0 ≤ℤ amount 2 words
bound_in words line =
    let each = all_none (needed (one_of (codes "PRESSURE" ∷ [])) 1 words ∷ needed not_negative 2 words ∷ ends 3 words
    ∷ []) line in
    le_z-yes (pos 0) (amount 2 words) (in_range (λ nano. le_z (pos 0) nano) (word 2 words)
    (needed_none not_negative 2 words each.1.0).right)

pressure_right : (rows : List Row) (a : List ℕ) (row : Row) → AreRight rows → is_one_of pressure_words a ≡ true
    → IsInForce rows OptionsSection (begins a) row
    → bound_line row.words ≡ None → IsPressureOf (us rows) (amount 2 row.words)
pressure_right rows a row right one found line = record {
  not_negative = bound_in row.words line;
  at_most = le_z-yes _ _ (unless_none _ _ (judged rows a row right one found).0);
}

least_pressure : (us : Bool) → IsPressureOf us (pos 0)
least_pressure true = record { not_negative = omega (arith, ints); at_most = omega (arith, ints) }
least_pressure false = record { not_negative = omega (arith, ints); at_most = omega (arith, ints) }

usual_pressure : (us : Bool) → IsPressureOf us (pos (10 ^ 8))
usual_pressure true = record { not_negative = omega (arith, ints); at_most = omega (arith, ints) }
usual_pressure false = record { not_negative = omega (arith, ints); at_most = omega (arith, ints) }

minimum_right : (rows : List Row) → AreRight rows → IsPressureOf (us rows) (minimum_pressure rows)
minimum_right rows right = say_is (IsPressureOf (us rows)) (pos 0) (λ row. amount 2 row.words)
    (option_row (codes "MINIMUM") rows) (least_pressure (us rows)) (λ row e.
    let found = in_force rows OptionsSection (begins (codes "MINIMUM")) row e in
    pressure_right rows (codes "MINIMUM") row right minimum_one found
    (about row.words (codes "MINIMUM") at.Minimum
    (right_alone rows OptionsSection found.place row right found.is found.of) found.passes minimum_is))

required_right : (rows : List Row) → AreRight rows → IsPressureOf (us rows) (required_pressure rows)
required_right rows right = say_is (IsPressureOf (us rows)) (pos (10 ^ 8)) (λ row. amount 2 row.words)
    (option_row (codes "REQUIRED") rows) (usual_pressure (us rows)) (λ row e.
    let found = in_force rows OptionsSection (begins (codes "REQUIRED")) row e in
    pressure_right rows (codes "REQUIRED") row right required_one found
    (about row.words (codes "REQUIRED") at.Required
    (right_alone rows OptionsSection found.place row right found.is found.of) found.passes required_is))

-- at the line where they are compared
apart_at : (rows : List Row) (a : List ℕ) (row : Row) → AreRight rows → is_one_of pressure_words a ≡ true
    → IsInForce rows OptionsSection (begins a) row
    → depends_on_pressure rows ≡ true → row.number ≡ pressure_line rows → (minimum_pressure rows +ℤ pos (10 ^ 8))
    ≤ℤ required_pressure rows
apart_at rows a row right one found depends line =
    let here : (row.number == pressure_line rows) ≡ true = eq-eqb row.number (pressure_line rows) line in
    let test : unless (le_z (minimum_pressure rows +ℤ pos (10 ^ 8)) (required_pressure rows)) Range ≡ None =
    rw (depends, here) at (judged rows a row right one found).1 in
    le_z-yes _ _ (unless_none _ _ test)

-- whichever of the two lines is the later one
apart_by : (rows : List Row) (minimum required : Option Row) → AreRight rows → depends_on_pressure rows ≡ true
    → option_row (codes "MINIMUM") rows ≡ minimum → option_row (codes "REQUIRED") rows ≡ required
    → (minimum_pressure rows +ℤ pos (10 ^ 8)) ≤ℤ required_pressure rows
apart_by rows None None right depends m r = rw (m, r) (omega (arith, ints))
apart_by rows (Some a) None right depends m r =
    apart_at rows (codes "MINIMUM") a right minimum_one (in_force rows OptionsSection (begins (codes "MINIMUM")) a m)
    depends (rw (m, r) (omega arith))
apart_by rows None (Some b) right depends m r =
    apart_at rows (codes "REQUIRED") b right required_one
    (in_force rows OptionsSection (begins (codes "REQUIRED")) b r) depends (rw (m, r) (omega arith))
apart_by rows (Some a) (Some b) right depends m r = elim (cases_lt a.number b.number) [
  | inl less ↦ apart_at rows (codes "REQUIRED") b right required_one
      (in_force rows OptionsSection (begins (codes "REQUIRED")) b r) depends (rw (m, r) (omega (arith, less)))
  | inr more ↦ apart_at rows (codes "MINIMUM") a right minimum_one
      (in_force rows OptionsSection (begins (codes "MINIMUM")) a m) depends (rw (m, r) (omega (arith, more)))
]

is_pressure : (rows : List Row) (o : Options) (d : Decimal) (nano : ℤ) → IsOptions rows o → d.nano ≡ nano
    → IsPressureOf (us rows) nano → IsPressure o.unit d
is_pressure rows o d nano is same bounds = record {
  not_negative = rw same bounds.not_negative;
  at_most = rw (is.unit_is, same) bounds.at_most;
}

-- ---- all options

pub has_options : (rows : List Row) (p : Project) → AreRight rows → IsProject rows p
    → HasOptions p.options p.patterns.list
has_options rows p right of = record {
  multiplier = subst (IsUpTo (10 ^ 6)) (sym of.options.multiplier) (multiplier_right rows right);
  minimum = is_pressure rows p.options p.options.p0 (minimum_pressure rows) of.options of.options.minimum
      (minimum_right rows right);
  required = is_pressure rows p.options p.options.pf (required_pressure rows) of.options of.options.required
      (required_right rows right);
  apart = λ pda. rw (of.options.minimum, of.options.required)
      (apart_by rows _ _ right (sym of.options.pda ∙ pda) refl refl);
  default_pattern = has_pattern rows p (λ _. ⊤) (default_pattern rows) p.options.default_pattern of
      of.options.default_pattern
      (all_from (λ _. ⊤) (pattern_named rows (default_pattern rows)) (λ k x is. tt));
}

pub of_needed_number : (o : Option (List ℕ)) → of_needed not_negative o ≡ None → of_needed number o ≡ None
of_needed_number None e = absurd (let x : ⊥ = cc in x)
of_needed_number (Some w) e = (or_none (number w) _ e).0

pub bound_number : (words : List (List ℕ)) → bound_line words ≡ None → needed number 2 words ≡ None
bound_number words line =
    let each = all_none (needed (one_of (codes "PRESSURE" ∷ [])) 1 words ∷ needed not_negative 2 words ∷ ends 3 words
    ∷ []) line in
    of_needed_number (slice_get words 2) each.1.0
