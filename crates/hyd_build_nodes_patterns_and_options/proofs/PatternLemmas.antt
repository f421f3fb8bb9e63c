-- The multipliers of patterns, one row more.
use Rattle.std.proofs.Common.{◌≡◌, ◌+◌, ◌<◌, ◌≤◌, ℕ, zero, suc, one-add, true, false, ◌==◌, nat_lt, List, [], ◌∷◌, ◌++◌}
use Rattle.std.proofs.Common.{map, length, take, drop, slice_get, slice_set, slice_index_or, get_or, position, Option}
use Rattle.std.proofs.Common.{Some, None, refl, sym, ap, ◌∙◌, subst, arith, inl, inr, true≢false, append-nil}
use Rattle.std.proofs.Common.{append_assoc}
use Rattle.std.specs.Prelude.{if◌then◌else◌, ℤ}
use Rattle.std.specs.List.{flat_map, position_or_len}
use Rattle.std.specs.Str.{bytes_eq}
use Rattle.std.proofs.lemmas.Bool.{cases_Bool, eq-eqb, ne_eqb, or_parts}
use Rattle.std.proofs.lemmas.List.{map-append, length-map, length-append, map-set, get_or-map, take_all}
use Rattle.std.proofs.lemmas.List.Elements.{filter-append}
use Rattle.hyd_spec_lines.specs.Lines.{Row}
use Rattle.hyd_spec_lines.specs.declared.section.Section.TheVariants.{Patterns, Rules}
use Rattle.hyd_spec_lines.specs.declared.section.Section.{Section}
use Rattle.hyd_net.specs.declared.refusal_cause.Cause.{Cause}
use Rattle.hyd_spec_input.specs.SingleRows.{section_fault, IsWrongByItself}
use Rattle.hyd_spec_input.specs.Columns.{or_empty}
use Rattle.hyd_spec_input.specs.DemandEmitterCurvePatternAndStatusRows.{pattern}
use Rattle.hyd_spec_input.specs.Faults.{NoneIs}
use Rattle.hyd_net.specs.declared.patterns.Pattern.{Pattern}
use Rattle.hyd_spec_input.specs.MeaningsAcrossRows.{is_among, new_names, number_in, pattern_ids}
use Rattle.hyd_spec_input.specs.Project.{Match, IsPattern}
use Rattle.hyd_spec_input.specs.SectionsAndTables.{is_of, own_id, rows_of, rows_with, row_multipliers, pattern_named}
use Rattle.hyd_spec_input.specs.SectionsAndTables.{words_of}
use Rattle.hyd_theorems_on_input.proofs.RowsWithoutFault.{section_is, none_alone}
use Rattle.hyd_rows_and_tables.proofs.FirstWrongRowLemmas.{filter_more, filter_same}
use Rattle.hyd_theorems_on_input.proofs.OccurrencesOfNames.{same_name, itself, other_name, when, occurs, Once}
use Rattle.hyd_theorems_on_input.proofs.OccurrencesOfNames.{occurs_at}
use Rattle.hyd_theorems_on_input.proofs.OccurrencesOfNames.{names_once}
use Rattle.hyd_theorems_on_input.proofs.OccurrencesOfNames.{has_number}
use Rattle.hyd_theorems_on_input.proofs.ListsByPlace.{split_at}
use Rattle.hyd_theorems_on_input.proofs.Names.{and_name, one_more}
use Rattle.hyd_build_nodes_patterns_and_options.specs.PatternsSoFar.{each, ids_of, given, all_given, AreFilled, opened}

-- ---- the list of one pattern is written

pub filled : (patterns : List Pattern) (n : ℕ) (was now : Pattern) (more : List ℤ) → n < length patterns
    → was ≡ get_or patterns n was → now.multipliers.list ≡ was.multipliers.list ++ more
    → each (slice_set patterns n now) ≡ slice_set (each patterns) n (slice_index_or (each patterns) n [] ++ more)
filled patterns n was now more l w e =
    let f : Pattern → List ℤ = λ (p : Pattern). p.multipliers.list in
    let old : get_or (each patterns) n [] ≡ was.multipliers.list = get_or-map f patterns n was [] l ∙ ap f (sym w) in
    map-set f patterns n now ∙ ap (λ xs. slice_set (each patterns) n xs) (e ∙ ap (λ xs. xs ++ more) (sym old))

-- ---- the multipliers that a row gives

-- those of one row to one pattern
abbrev from_row : List ℕ → Row → List ℤ
from_row name row = if bytes_eq name (own_id row) then row_multipliers row else []

flat-append : {A B : Type 0} (f : A → List B) (xs ys : List A) → flat_map f (xs ++ ys) ≡ flat_map f xs ++ flat_map f ys
flat-append f [] ys = refl
flat-append f (x ∷ xs) ys = ap (λ l. f x ++ l) (flat-append f xs ys)
    ∙ sym (append_assoc (f x) (flat_map f xs) (flat_map f ys))

given_one : (name : List ℕ) (row : Row) → given (row ∷ []) name ≡ from_row name row
given_one name row = elim (cases_Bool (bytes_eq name (own_id row))) [
  | inl t ↦ rw t (append-nil (row_multipliers row))
  | inr f ↦ rw f refl
]

given_more : (rows : List Row) (row : Row) (name : List ℕ) → given (rows ++ row ∷ []) name
    ≡ given rows name ++ from_row name row
given_more rows row name =
    ap (flat_map row_multipliers) (filter-append (λ r. bytes_eq name (own_id r)) rows (row ∷ []))
    ∙ flat-append row_multipliers (rows_with name rows) (rows_with name (row ∷ []))
    ∙ ap (λ l. given rows name ++ l) (given_one name row)

-- a name of which no row is gets nothing
given_none : (rows : List Row) (name : List ℕ) → is_among name (map own_id rows) ≡ false → given rows name ≡ []
given_none [] name e = refl
given_none (row ∷ rows) name e =
    let both = or_parts (bytes_eq name (own_id row)) (is_among name (map own_id rows)) e in
    rw both.0 (given_none rows name both.1)

-- ---- one more row of all patterns

pub same_map : {A B : Type 0} (f g : A → B) (xs : List A) → ((x : A) → f x ≡ g x) → map f xs ≡ map g xs
same_map f g [] each = refl
same_map f g (x ∷ xs) each = rw (each x) (ap (λ l. g x ∷ l) (same_map f g xs each))

-- where a name occurs once, its item is the only one that changes
abbrev added_at : (List ℕ → List ℤ) → List ℕ → List ℤ → List ℕ → List ℤ
added_at f name more id = f id ++ (if bytes_eq id name then more else [])

not_here : (f : List ℕ → List ℤ) (name : List ℕ) (more : List ℤ) (ids : List (List ℕ)) → occurs name ids ≤ 0
    → map f ids ≡ map (added_at f name more) ids
not_here f name more [] none = refl
not_here f name more (id ∷ ids) none = elim (cases_Bool (bytes_eq id name)) [
  | inl t ↦ (let same : id ≡ name = same_name id name t in
      let one : when (bytes_eq name id) 1 ≡ 1 = rw same (rw (itself name) refl) in
      absurd (omega (arith, one, none)))
  | inr f0 ↦ rw f0 (rw (append-nil (f id)) (ap (λ l. f id ∷ l) (not_here f name more ids (omega (arith, none)))))
]

set_one : (f : List ℕ → List ℤ) (name : List ℕ) (more : List ℤ) (ids : List (List ℕ)) (n : ℕ) → Once ids
    → slice_get ids n ≡ Some name
    → slice_set (map f ids) n (slice_index_or (map f ids) n [] ++ more) ≡ map (added_at f name more) ids
set_one f name more [] n once is = absurd (let x : ⊥ = cc in x)
set_one f name more (id ∷ ids) zero once is =
    let same : id ≡ name = cc in
    let one : when (bytes_eq name id) 1 ≡ 1 = rw same (rw (itself name) refl) in
    let here : bytes_eq id name ≡ true = rw same (itself name) in
    rw here (ap (λ l. (f id ++ more) ∷ l) (not_here f name more ids (omega (arith, one, once name))))
set_one f name more (id ∷ ids) (suc n) once is =
    let later : 1 ≤ occurs name ids = occurs_at name ids n is in
    let apart : bytes_eq id name ≡ false = other_name id name (λ same.
    let one : when (bytes_eq name id) 1 ≡ 1 = rw same (rw (itself name) refl) in
    absurd (omega (arith, one, later, once name))) in
    let rest : Once ids = λ other. omega (arith, once other) in
    rw apart (rw (append-nil (f id)) (ap (λ l. f id ∷ l) (set_one f name more ids n rest is)))

-- ---- the number of a row's pattern

-- new names of more names begin with those of the first
record Begins (front all : List (List ℕ)) : Type 0 where
  rest : List (List ℕ)
  is : all ≡ front ++ rest

names_begin : (seen xs ys : List (List ℕ)) → Begins (new_names seen xs) (new_names seen (xs ++ ys))
names_begin seen [] ys = record { rest = new_names seen ys; is = refl }
names_begin seen (x ∷ xs) ys = elim (cases_Bool (is_among x seen)) [
  | inl t ↦ rw t (names_begin seen xs ys)
  | inr f ↦ (let more = names_begin (x ∷ seen) xs ys in
      rw f (record { rest = more.rest; is = ap (λ l. x ∷ l) more.is }))
]

-- the place of a name among names that go on
record At (name : List ℕ) (names : List (List ℕ)) (n : ℕ) : Type 0 where
  inside : n < length names
  is : slice_get names n ≡ Some name

at_front : (name : List ℕ) (xs ys : List (List ℕ)) → is_among name xs ≡ true
    → At name xs (position_or_len (bytes_eq name) (xs ++ ys))
at_front name [] ys e = absurd (true≢false (sym e))
at_front name (x ∷ xs) ys e = elim (cases_Bool (bytes_eq name x)) [
  | inl t ↦ rw t (record { inside = omega arith; is = ap Some (sym (same_name name x t)) })
  | inr f ↦ (let later = at_front name xs ys (rw f at e) in
      rw (f, one-add) (record { inside = omega (arith, later.inside); is = later.is }))
]

at_end : (name : List ℕ) (xs ys : List (List ℕ)) → is_among name xs ≡ false
    → position_or_len (bytes_eq name) (xs ++ name ∷ ys) ≡ length xs
at_end name [] ys e = rw (itself name) refl
at_end name (x ∷ xs) ys e =
    let both = or_parts (bytes_eq name x) (is_among name xs) e in
    rw both.0 (ap (λ n. 1 + n) (at_end name xs ys both.1) ∙ omega arith)

place_of_number : (ids : List (List ℕ)) (name : List ℕ) (n : ℕ) → number_in ids name ≡ Some n
    → position_or_len (bytes_eq name) ids ≡ n
place_of_number ids name n e = elim (cases_Bool (nat_lt (position_or_len (bytes_eq name) ids) (length ids))) [
  | inl t ↦ (let f : Some (position_or_len (bytes_eq name) ids) ≡ Some n = rw t at e in
      let x : position_or_len (bytes_eq name) ids ≡ n = cc in x)
  | inr f ↦ (let h : None ≡ Some n = rw f at e in absurd (let x : ⊥ = cc in x))
]

-- names are among new names where they are among the names
among_new : (name : List ℕ) (seen names : List (List ℕ)) → is_among name seen ≡ false
    → is_among name (new_names seen names) ≡ is_among name names
among_new name seen [] e = refl
among_new name seen (x ∷ xs) e = elim (cases_Bool (is_among x seen)) [
  | inl t ↦ (let apart : bytes_eq name x ≡ false =
      other_name name x (λ same. true≢false (sym t ∙ rw (← same) e)) in
      rw (t, apart) (among_new name seen xs e))
  | inr f ↦ rw f (elim (cases_Bool (bytes_eq name x)) [
    | inl s ↦ rw s refl
    | inr a ↦ (let unseen : is_among name (x ∷ seen) ≡ false = rw a e in rw a (among_new name (x ∷ seen) xs unseen))
  ])
]

-- ---- all of it

-- a row's pattern is opened where it is new, and stands at its number
record Opened (rows : List Row) (row : Row) (n : ℕ) : Type 0 where
  all : opened n (all_given rows) ≡ map (given rows) (ids_of (rows ++ row ∷ []))
  at : At (own_id row) (ids_of (rows ++ row ∷ [])) n

abbrev names_with : List Row → Row → List (List ℕ)
names_with rows row = and_name (is_among (own_id row) (ids_of rows)) (ids_of rows) (own_id row)

ids_more : (rows : List Row) (row : Row) → ids_of (rows ++ row ∷ []) ≡ names_with rows row
ids_more rows row = ap (new_names []) (map-append own_id rows (row ∷ [])) ∙ one_more (own_id row) [] (map own_id rows)

open_old : (rows : List Row) (row : Row) (n : ℕ) → is_among (own_id row) (ids_of rows) ≡ true
    → At (own_id row) (ids_of rows) n → Opened rows row n
open_old rows row n there at =
    let same : ids_of (rows ++ row ∷ []) ≡ ids_of rows = ids_more rows row ∙ rw there refl in
    let apart : (n == length (all_given rows)) ≡ false =
    ne_eqb n (length (all_given rows)) (λ e. absurd (omega (
      arith,
      e,
      at.inside,
      length-map (ids_of rows)
          (given rows),
    ))) in
    record {
      all = rw (apart, same) refl;
      at = rw same at;
    }

open_new : (rows : List Row) (row : Row) (n : ℕ) → is_among (own_id row) (ids_of rows) ≡ false
    → n ≡ length (ids_of rows) → Opened rows row n
open_new rows row n new e =
    let more : ids_of (rows ++ row ∷ []) ≡ ids_of rows ++ own_id row ∷ [] = ids_more rows row ∙ rw new refl in
    let last : (n == length (all_given rows)) ≡ true =
    eq-eqb n (length (all_given rows)) (e ∙ sym (length-map (ids_of rows) (given rows))) in
    let none : given rows (own_id row) ≡ [] =
    given_none rows (own_id row) (sym (among_new (own_id row) [] (map own_id rows) refl) ∙ new) in
    record {
      all = rw (last, more) (sym (map-append (given rows) (ids_of rows) (own_id row ∷ [])
          ∙ ap (λ xs. all_given rows ++ xs ∷ []) none));
      at = rw (more, e) (record {
        inside = omega (arith, length-append (ids_of rows) (own_id row ∷ []));
        is = end (ids_of rows) (own_id row);
      });
    }
  where
    end : (xs : List (List ℕ)) (x : List ℕ) → slice_get (xs ++ x ∷ []) (length xs) ≡ Some x
    end [] x = refl
    end (y ∷ xs) x = end xs x

open_row : (rows later : List Row) (row : Row) (n : ℕ)
    → number_in (ids_of (rows ++ row ∷ later)) (own_id row) ≡ Some n → Opened rows row n
open_row rows later row n e =
    let parts : ids_of (rows ++ row ∷ later) ≡ ids_of ((rows ++ row ∷ []) ++ later) =
    ap ids_of (sym (append_assoc rows (row ∷ []) later)) in
    let begins = names_begin [] (map own_id (rows ++ row ∷ [])) (map own_id later) in
    let all : ids_of (rows ++ row ∷ later) ≡ names_with rows row ++ begins.rest =
    parts ∙ ap (new_names []) (map-append own_id (rows ++ row ∷ []) later) ∙ begins.is
    ∙ ap (λ l. l ++ begins.rest) (ids_more rows row) in
    let place : position_or_len (bytes_eq (own_id row)) (names_with rows row ++ begins.rest) ≡ n =
    place_of_number (names_with rows row ++ begins.rest) (own_id row) n (rw all at e) in
    elim (cases_Bool (is_among (own_id row) (ids_of rows))) [
      | inl t ↦ (let p : position_or_len (bytes_eq (own_id row)) (ids_of rows ++ begins.rest) ≡ n = rw t at place in
          open_old rows row n t (subst (At (own_id row) (ids_of rows)) p
          (at_front (own_id row) (ids_of rows) begins.rest t)))
      | inr f ↦ (let p : position_or_len (bytes_eq (own_id row)) ((ids_of rows ++ own_id row ∷ []) ++ begins.rest) ≡ n =
          rw f at place in
          open_new rows row n f (sym p
          ∙ ap (position_or_len (bytes_eq (own_id row))) (append_assoc (ids_of rows) (own_id row ∷ []) begins.rest)
          ∙ at_end (own_id row) (ids_of rows) begins.rest f))
    ]

-- the multipliers of all patterns, with one row more
pub row_filled : (rows later : List Row) (row : Row) (n : ℕ) (before after_open after : List (List ℤ))
    → number_in (ids_of (rows ++ row ∷ later)) (own_id row) ≡ Some n → before ≡ all_given rows
    → after_open ≡ opened n before → after ≡ slice_set after_open n (slice_index_or after_open n []
    ++ row_multipliers row)
    → after ≡ all_given (rows ++ row ∷ [])
row_filled rows later row n before after_open after e b o a =
    let is = open_row rows later row n e in
    let ids = ids_of (rows ++ row ∷ []) in
    let f : after_open ≡ map (given rows) ids = o ∙ ap (opened n) b ∙ is.all in
    a ∙ ap (λ l. slice_set l n (slice_index_or l n [] ++ row_multipliers row)) f
    ∙ set_one (given rows) (own_id row) (row_multipliers row) ids n (names_once (map own_id (rows
    ++ row ∷ []))) is.at.is
    ∙ same_map (added_at (given rows) (own_id row) (row_multipliers row)) (given (rows ++ row ∷ [])) ids
    (λ id. sym (given_more rows row id))

pub row_inside : (rows later : List Row) (row : Row) (n : ℕ) (before after_open : List (List ℤ))
    → number_in (ids_of (rows ++ row ∷ later)) (own_id row) ≡ Some n → before ≡ all_given rows
    → after_open ≡ opened n before → n < length after_open
row_inside rows later row n before after_open e b o =
    let is = open_row rows later row n e in
    let ids = ids_of (rows ++ row ∷ []) in
    let f : after_open ≡ map (given rows) ids = o ∙ ap (opened n) b ∙ is.all in
    omega (arith, is.at.inside, ap length f, length-map ids (given rows))

-- a row's pattern has a number
pub has_its_number : (rows later : List Row) (row : Row) → number_in (ids_of (rows ++ row ∷ later)) (own_id row)
    ≡ None → ⊥
has_its_number rows later row none =
    let ids = ids_of (rows ++ row ∷ later) in
    has_number (own_id row) ids (counted (own_id row) ids
    (among_new (own_id row) [] (map own_id (rows ++ row ∷ later)) refl
    ∙ ap (is_among (own_id row)) (map-append own_id rows (row ∷ later))
    ∙ inside (own_id row) (map own_id rows) (map own_id later))) none
  where
    inside : (name : List ℕ) (xs ys : List (List ℕ)) → is_among name (xs ++ name ∷ ys) ≡ true
    inside name [] ys = rw (itself name) refl
    inside name (x ∷ xs) ys = elim (cases_Bool (bytes_eq name x)) [
      | inl t ↦ rw t refl
      | inr f ↦ rw f
          (inside name xs ys)
    ]

    counted : (name : List ℕ) (ids : List (List ℕ)) → is_among name ids ≡ true → 1 ≤ occurs name ids
    counted name [] e = absurd (true≢false (sym e))
    counted name (id ∷ ids) e = elim (cases_Bool (bytes_eq name id)) [
      | inl t ↦ rw t (omega arith)
      | inr f ↦ (let there : is_among name ids ≡ true = rw f at e in rw f (omega (arith, counted name ids there)))
    ]

-- ---- among the rows of a file

pub parted_rows : (rows : List Row) (k : ℕ) (row : Row) → slice_get rows k ≡ Some row → is_of Patterns row ≡ true
    → rows_of Patterns rows ≡ rows_of Patterns (take k rows) ++ row ∷ rows_of Patterns (drop (suc k) rows)
parted_rows rows k row is member =
    ap (rows_of Patterns) (split_at rows k row is)
    ∙ filter-append (is_of Patterns) (take k rows) (row ∷ drop (suc k) rows) ∙ rw member refl

pub skip_row : (rows : List Row) (k : ℕ) (row : Row) (patterns : List Pattern) → slice_get rows k ≡ Some row
    → is_of Patterns row ≡ false → AreFilled rows k patterns → AreFilled rows (k + 1) patterns
skip_row rows k row patterns is other before =
    before ∙ sym (ap all_given (filter_same (is_of Patterns) rows k row is other))

pub add_pattern : (rows : List Row) (k n : ℕ) (row : Row) (before after : List Pattern) (after_open : List (List ℤ))
    → slice_get rows k ≡ Some row → is_of Patterns row ≡ true
    → number_in (pattern_ids rows) (own_id row) ≡ Some n → AreFilled rows k before
    → after_open ≡ opened n (each before)
    → each after ≡ slice_set after_open n (slice_index_or after_open n [] ++ row_multipliers row)
    → AreFilled rows (k + 1) after
add_pattern rows k n row before after after_open is member number b o a =
    let parts = parted_rows rows k row is member in
    let e : number_in (ids_of (rows_of Patterns (take k rows)
    ++ row ∷ rows_of Patterns (drop (suc k) rows))) (own_id row)
    ≡ Some n = ap (λ rs. number_in (ids_of rs) (own_id row)) (sym parts) ∙ number in
    row_filled (rows_of Patterns (take k rows)) (rows_of Patterns (drop (suc k) rows)) row n (each before) after_open
    (each after) e b o a
    ∙ sym (ap all_given (filter_more (is_of Patterns) rows k row is member))

pub inside_patterns : (rows : List Row) (k n : ℕ) (row : Row) (before : List Pattern) (after_open : List Pattern)
    → slice_get rows k ≡ Some row → is_of Patterns row ≡ true
    → number_in (pattern_ids rows) (own_id row) ≡ Some n → AreFilled rows k before
    → each after_open ≡ opened n (each before) → n < length after_open
inside_patterns rows k n row before after_open is member number b o =
    let parts = parted_rows rows k row is member in
    let e : number_in (ids_of (rows_of Patterns (take k rows)
    ++ row ∷ rows_of Patterns (drop (suc k) rows))) (own_id row)
    ≡ Some n = ap (λ rs. number_in (ids_of rs) (own_id row)) (sym parts) ∙ number in
    let l = row_inside (rows_of Patterns (take k rows)) (rows_of Patterns (drop (suc k) rows)) row n (each before)
    (each after_open) e b o in
    omega (arith, l, length-map after_open (λ (p : Pattern). p.multipliers.list))

pub no_number : (rows : List Row) (k : ℕ) (row : Row) → slice_get rows k ≡ Some row → is_of Patterns row ≡ true
    → number_in (pattern_ids rows) (own_id row) ≡ None → ⊥
no_number rows k row is member none =
    let parts = parted_rows rows k row is member in
    has_its_number (rows_of Patterns (take k rows)) (rows_of Patterns (drop (suc k) rows)) row
    (ap (λ rs. number_in (ids_of rs) (own_id row)) (sym parts) ∙ none)

-- the number of a row's pattern, as it is looked up
pub numbered : (rows : List Row) (ids : List (List ℕ)) (row : Row) (id : List ℕ) (found : Option ℕ)
    → ids ≡ pattern_ids rows → slice_get row.words 0 ≡ Some id → found ≡ position (bytes_eq id) ids
    → number_in (pattern_ids rows) (own_id row) ≡ found
numbered rows ids row id found e is v =
    let same : own_id row ≡ id = ap or_empty is in
    rw (same, ← e) (sym v)

never_both : (o : Option Cause) (cause : Cause) → o ≡ Some cause → o ≡ None → ⊥
never_both o cause e none = cc

-- its row is right by itself
pub right_row : (rows : List Row) (k : ℕ) (row : Row) (cause : Cause) → NoneIs (IsWrongByItself rows)
    → slice_get rows k ≡ Some row → is_of Patterns row ≡ true → pattern row.words ≡ Some cause → ⊥
right_row rows k row cause none is member e =
    let P : Section → Type 0 = λ s. section_fault s (words_of Rules (take k rows)) row.words
    (words_of Rules (drop (k + 1) rows)) ≡ None in
    never_both (pattern row.words) cause e
    (subst P (section_is Patterns row member) (none_alone rows k row none is))

-- ---- the end

match_of_maps : {A B C : Type 0} (f : A → C) (g : B → C) (xs : List A) (ys : List B) → map g ys ≡ map f xs
    → Match (λ x y. g y ≡ f x) xs ys
match_of_maps f g [] [] e = tt
match_of_maps f g [] (y ∷ ys) e = absurd (let x : ⊥ = cc in x)
match_of_maps f g (x ∷ xs) [] e = absurd (let y : ⊥ = cc in y)
match_of_maps f g (x ∷ xs) (y ∷ ys) e =
    let one : g y ≡ f x = cc in
    let rest : map g ys ≡ map f xs = cc in
    (one, match_of_maps f g xs ys rest)

pub all_filled : (rows : List Row) (k : ℕ) (patterns list : List Pattern) → AreFilled rows k patterns → length rows ≤ k
    → list ≡ patterns → Match (IsPattern rows) (pattern_ids rows) list
all_filled rows k patterns list is l same =
    let all : take k rows ≡ rows = take_all k rows l in
    let e : each list ≡ all_given (rows_of Patterns rows) =
    ap each same ∙ is ∙ ap (λ rs. all_given (rows_of Patterns rs)) all in
    match_of_maps (pattern_named rows) (λ (p : Pattern). p.multipliers.list) (pattern_ids rows) list e
