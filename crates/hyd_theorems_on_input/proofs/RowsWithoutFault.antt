-- A row of a text without a fault: it is right by itself and with the others, and each thing that is asked of it holds.
use Rattle.std.proofs.Common.{◌≡◌, ℕ, ◌+◌, ◌≤◌, Bool, true, false, List, [], ◌∷◌, length, take, drop, Option, Some}
use Rattle.std.proofs.Common.{None, refl, sym, ap, ◌∙◌, subst, inl, ◌^◌}
use Rattle.std.specs.Prelude.{slice_get, ◌&&◌, ◌==◌, ℤ, if◌then◌else◌}
use Rattle.std.specs.List.{All, AllByRecursion}
use Rattle.std.proofs.lemmas.Bool.{and_parts, eqb-true}
use Rattle.std.proofs.lemmas.List.Elements.{All-from_recursion}
use lib.Signed.{le_z}
use Rattle.hyd_num.specs.Numeral.{nano_of}
use Rattle.hyd_spec_lines.specs.Lines.{Row, items_of, rows_in}
use Rattle.hyd_lemmas.proofs.BooleanTests.{le_z-yes}
use Rattle.hyd_theorems_on_input.proofs.NoEmptyWords.{HasWords, not_empty}
use Rattle.hyd_spec_lines.specs.declared.section.Section.{Section}
use Rattle.hyd_spec_lines.specs.declared.section.Section.TheVariants.{Junctions, Reservoirs, Tanks, Pipes, Pumps}
use Rattle.hyd_spec_lines.specs.declared.section.Section.TheVariants.{Valves, Demands, Emitters, Curves, Patterns}
use Rattle.hyd_spec_lines.specs.declared.section.Section.TheVariants.{Status, Controls, Rules, Options, Times}
use Rattle.hyd_net.specs.NumberRanges.{Lies}
use Rattle.hyd_net.specs.declared.refusal_cause.Cause.{Cause}
use Rattle.hyd_spec_input.specs.Columns.{Column, or_else, first, unless, of_needed, needed, of_word, optional, or_empty}
use Rattle.hyd_spec_input.specs.Columns.{word, number, number_where, number_within, nano_or, amount_or}
use Rattle.hyd_spec_input.specs.Columns.{above_0_to, one_of, ends}
use Rattle.hyd_spec_input.specs.NodeAndLinkRows.{link_ends, minor_or_status, pipe_statuses, pipe, pipe_by}
use Rattle.hyd_spec_input.specs.OptionsAndTimesInForce.{has_hazen_williams}
use Rattle.hyd_spec_input.specs.SectionsAndTables.{place, is_of, words_of}
use Rattle.hyd_spec_input.specs.SingleRows as itself
use Rattle.hyd_spec_input.specs.FaultsWithOtherRows as others
use Rattle.hyd_spec_input.specs.SingleRows.{IsWrongByItself}
use Rattle.hyd_spec_input.specs.Faults.{HasNoFault, NoneIs}
use Rattle.hyd_theorems_on_input.proofs.ListsByPlace.{all_at}

-- ---- several faults, of which none is there

pub or_none : (fault next : Option Cause) → or_else fault next ≡ None → (fault ≡ None) × (next ≡ None)
or_none None next e = (refl, e)
or_none (Some cause) next e = absurd (let x : ⊥ = cc in x)

pub all_none : (faults : List (Option Cause)) → first faults ≡ None → AllByRecursion (λ fault. fault ≡ None) faults
all_none [] e = tt
all_none (fault ∷ faults) e = let both = or_none fault (first faults) e in (both.0, all_none faults both.1)

pub unless_none : (b : Bool) (cause : Cause) → unless b cause ≡ None → b ≡ true
unless_none true cause e = refl
unless_none false cause e = absurd (let x : ⊥ = cc in x)

-- ---- words

-- a word that is needed is there, and right
pub record Word (column : Column) (words : List (List ℕ)) (k : ℕ) : Type 0 where
  pub is : slice_get words k ≡ Some (word k words)
  pub right : column (word k words) ≡ None

of_needed_none : (column : Column) (o : Option (List ℕ)) → of_needed column o ≡ None → (o ≡ Some (or_empty o))
    × (column (or_empty o) ≡ None)
of_needed_none column None e = absurd (let x : ⊥ = cc in x)
of_needed_none column (Some w) e = (refl, e)

pub needed_none : (column : Column) (k : ℕ) (words : List (List ℕ)) → needed column k words ≡ None
    → Word column words k
needed_none column k words e = let both = of_needed_none column (slice_get words k) e in
    record { is = both.0; right = both.1 }

-- a word that may be missing is right where it is there
pub optional_none : (column : Column) (k : ℕ) (words : List (List ℕ)) (w : List ℕ) → optional column k words ≡ None
    → slice_get words k ≡ Some w → column w ≡ None
optional_none column k words w e is = let P : Option (List ℕ) → Type 0 = λ o. of_word column o ≡ None in subst P is e

-- what a number that may be missing has, its default has it too
pub amount_or_is : (P : ℤ → Type 0) (default : ℤ) (k : ℕ) (words : List (List ℕ)) → P default
    → ((w : List ℕ) → slice_get words k ≡ Some w → P (nano_of w))
    → P (amount_or default k words)
amount_or_is P default k words d each = by (slice_get words k) each
  where
    by : (o : Option (List ℕ)) → ((w : List ℕ) → o ≡ Some w → P (nano_of w)) → P (nano_or default o)
    by None each = d
    by (Some w) each = each w refl

-- ---- numbers

pub in_range : (test : ℤ → Bool) (w : List ℕ) → number_where test w ≡ None → test (nano_of w) ≡ true
in_range test w e = unless_none _ _ (or_none (number w) _ e).1

pub lies : (low high z : ℤ) → (le_z low z && le_z z high) ≡ true → Lies low high z
lies low high z e = let both = and_parts (le_z low z) (le_z z high) e in
    record { at_least = le_z-yes low z both.0; at_most = le_z-yes z high both.1 }

pub within : (low high : ℤ) (w : List ℕ) → number_within low high w ≡ None → Lies low high (nano_of w)
within low high w e = lies low high (nano_of w) (in_range (λ nano. le_z low nano && le_z nano high) w e)

-- ---- rows

-- the rows of a text without a fault
pub record AreRight (rows : List Row) : Type 0 where
  pub by_itself : (k : ℕ) (row : Row) → slice_get rows k ≡ Some row → itself.row_fault rows k row ≡ None
  pub with_others : (k : ℕ) (row : Row) → slice_get rows k ≡ Some row → others.row_fault rows k row ≡ None
  pub not_empty : (k : ℕ) (row : Row) → slice_get rows k ≡ Some row → All (λ w. 1 ≤ length w) row.words

-- no cause is there
pub none_from : (fault : Option Cause) → ((cause : Cause) → fault ≡ Some cause → ⊥) → fault ≡ None
none_from None never = refl
none_from (Some cause) never = absurd (never cause refl)

pub right_rows : (text : List ℕ) → HasNoFault text → AreRight (rows_in (items_of text))
right_rows text none =
    let rows = rows_in (items_of text) in
    record {
      by_itself = λ k row is. none_from (itself.row_fault rows k row)
          (λ cause e. none.by_itself k cause (record { row = row; row_is = is; fault = e }));
      with_others = λ k row is. none_from (others.row_fault rows k row)
          (λ cause e. none.with_others k cause (record { row = row; row_is = is; fault = inl e }));
      not_empty = λ k row is. all_at HasWords rows (All-from_recursion HasWords rows (not_empty text)) k row is;
    }

-- ---- sections

at_place : ℕ → Section
at_place n =
    if n == 0 then Junctions else (if n == 1 then Reservoirs else (if n == 2 then Tanks else (if n == 3 then Pipes
    else (if n == 4 then Pumps else (if n == 5 then Valves else (if n == 6 then Demands else (if n == 7 then Emitters
    else (if n == 8 then Curves else (if n == 9 then Patterns else
    (if n == 10 then Status else (if n == 11 then Controls
    else (if n == 12 then Rules else (if n == 13 then Options else Times)))))))))))))

has_place : (section : Section) → at_place (place section) ≡ section
unfolding at_place
has_place Junctions = refl
has_place Reservoirs = refl
has_place Tanks = refl
has_place Pipes = refl
has_place Pumps = refl
has_place Valves = refl
has_place Demands = refl
has_place Emitters = refl
has_place Curves = refl
has_place Patterns = refl
has_place Status = refl
has_place Controls = refl
has_place Rules = refl
has_place Options = refl
has_place Times = refl

pub section_is : (section : Section) (row : Row) → is_of section row ≡ true → row.section ≡ section
section_is section row e = sym (has_place row.section) ∙ ap at_place (eqb-true _ _ e) ∙ has_place section

-- ---- pipes

any_number : (o : Option (List ℕ)) → of_needed (above_0_to 10) o ≡ None → of_needed number o ≡ None
any_number None e = absurd (let x : ⊥ = cc in x)
any_number (Some w) e = (or_none (number w) _ e).0

-- a fourth thing that is asked in place of another one
fourth : (a b c x y : Option Cause) (rest : List (Option Cause)) → (x ≡ None → y ≡ None)
    → first (a ∷ b ∷ c ∷ x ∷ rest) ≡ None → first (a ∷ b ∷ c ∷ y ∷ rest) ≡ None
fourth None None None x y rest h e = let both = or_none x (first rest) e in rw (h both.0) both.1
fourth None None (Some cause) x y rest h e = absurd (let z : ⊥ = cc in z)
fourth None (Some cause) c x y rest h e = absurd (let z : ⊥ = cc in z)
fourth (Some cause) b c x y rest h e = absurd (let z : ⊥ = cc in z)

-- Manning's coefficient is a number too
right_by_any : (by_power : Bool) (words : List (List ℕ)) → pipe_by by_power words ≡ None → pipe words ≡ None
right_by_any true words e = e
right_by_any false words e =
    fourth (link_ends words) (needed (above_0_to (10 ^ 6)) 3 words) (needed (above_0_to (10 ^ 4)) 4 words)
    (needed (above_0_to 10) 5 words) (needed number 5 words)
    (optional (minor_or_status words) 6 words ∷ optional (one_of pipe_statuses) 7 words ∷ ends 8 words ∷ [])
    (any_number (slice_get words 5)) e

by_section : (section : Section) (by_power : Bool) (earlier : List (List (List ℕ))) (words : List (List ℕ))
    (later : List (List (List ℕ))) → (if place section == place Pipes then pipe_by by_power words
    else itself.section_fault section earlier words later) ≡ None
    → itself.section_fault section earlier words later ≡ None
by_section Pipes by_power earlier words later e = right_by_any by_power words e
by_section _ by_power earlier words later e = e

-- a row that is right by itself is so as one of its section
right_in_section : (rows : List Row) (k : ℕ) (row : Row) → itself.row_fault rows k row ≡ None
    → itself.section_fault row.section (words_of Rules (take k rows)) row.words
    (words_of Rules (drop (k + 1) rows)) ≡ None
right_in_section rows k row e = by_section row.section (has_hazen_williams rows) _ row.words _ e

pub none_alone : (rows : List Row) (k : ℕ) (row : Row) → NoneIs (IsWrongByItself rows) → slice_get rows k ≡ Some row
    → itself.section_fault row.section (words_of Rules (take k rows)) row.words
    (words_of Rules (drop (k + 1) rows)) ≡ None
none_alone rows k row right is =
    right_in_section rows k row (none_from (itself.row_fault rows k row)
    (λ cause f. right k cause (record { row = row; row_is = is; fault = f })))

-- a pipe is right by the formula in force
pub pipe_right : (rows : List Row) (k : ℕ) (row : Row) → itself.row_fault rows k row ≡ None → is_of Pipes row ≡ true
    → pipe_by (has_hazen_williams rows) row.words ≡ None
pipe_right rows k row e of =
    let P : Section → Type 0 = λ s. (if place s == place Pipes then pipe_by (has_hazen_williams rows) row.words
    else itself.section_fault s (words_of Rules (take k rows)) row.words (words_of Rules (drop (k + 1) rows)))
    ≡ None in
    subst P (section_is Pipes row of) e

-- ---- all sections

-- what is asked of a row of a section, by itself and with the others
pub right_alone : (rows : List Row) (section : Section) (k : ℕ) (row : Row) → AreRight rows
    → slice_get rows k ≡ Some row → is_of section row ≡ true
    → itself.section_fault section (words_of Rules (take k rows)) row.words (words_of Rules (drop (k + 1) rows))
    ≡ None
right_alone rows section k row right is of =
    let P : Section → Type 0 = λ s. itself.section_fault s (words_of Rules (take k rows)) row.words
    (words_of Rules (drop (k + 1) rows)) ≡ None in
    subst P (section_is section row of) (right_in_section rows k row (right.by_itself k row is))

pub right_among : (rows : List Row) (section : Section) (k : ℕ) (row : Row) → AreRight rows
    → slice_get rows k ≡ Some row → is_of section row ≡ true
    → others.section_fault section rows k row ≡ None
right_among rows section k row right is of =
    let P : Section → Type 0 = λ s. others.section_fault s rows k row ≡ None in
    subst P (section_is section row of) (right.with_others k row is)

pub or_last : (fault : Option Cause) → or_else fault None ≡ fault
or_last (Some cause) = refl
or_last None = refl
