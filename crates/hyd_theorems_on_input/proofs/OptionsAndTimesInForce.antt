-- The options and times that a file has in force, and what keywords stand for.
use Rattle.std.proofs.Common.{◌≡◌, ℕ, suc, Bool, true, List, [], ◌∷◌, map, Option, Some, None, refl, sym, ap, subst}
use Rattle.std.proofs.Common.{inl, inr, true≢false, ◌++◌, ◌∙◌}
use Rattle.std.specs.Prelude.{slice_get, if◌then◌else◌}
use Rattle.std.specs.Char.{to_ascii_lowercase}
use Rattle.std.specs.Str.{bytes_eq}
use Rattle.std.proofs.lemmas.Bool.{cases_Bool}
use Rattle.hyd_spec_lines.specs.Lines.{Row}
use Rattle.hyd_spec_lines.specs.WordsOfLines.{is_keyword}
use Rattle.hyd_spec_lines.specs.Headings.{is_one_of, first_named}
use Rattle.hyd_spec_lines.specs.declared.section.Section.{Section}
use Rattle.hyd_spec_input.specs.Columns.{is_option_keyword, word_is, word, or_empty}
use Rattle.hyd_spec_input.specs.SectionsAndTables.{is_of, rows_of}
use Rattle.hyd_spec_input.specs.OptionsAndTimesInForce.{or_earlier, where_passes, last_where, say}
use Rattle.hyd_theorems_on_input.proofs.ListsByPlace.{Stands, kept_stands, kept_passes}
use Rattle.hyd_theorems_on_input.proofs.OccurrencesOfNames.{same_name}

-- ---- the last row that passes

last_more : (p : Row → Bool) (x row : Row) (xs : List Row) (o : Option Row)
    → (o ≡ Some row → Stands xs row × (p row ≡ true))
    → or_earlier o (where_passes p x) ≡ Some row → Stands (x ∷ xs) row × (p row ≡ true)
last_more p x row xs (Some y) later e = let found =
    later e in (record { place = suc found.0.place; is = found.0.is }, found.1)
last_more p x row xs None later e = elim (cases_Bool (p x)) [
  | inl t ↦ (let f : Some x ≡ Some row = rw t at e in let same : x ≡ row = cc in
      (record { place = 0; is = f }, subst (λ r. p r ≡ true) same t))
  | inr f ↦ (let g : None ≡ Some row = rw f at e in absurd (let x : ⊥ = cc in x))
]

last_is : (p : Row → Bool) (xs : List Row) (row : Row) → last_where p xs ≡ Some row → Stands xs row × (p row ≡ true)
last_is p [] row e = absurd (let x : ⊥ = cc in x)
last_is p (x ∷ xs) row e = last_more p x row xs (last_where p xs) (last_is p xs row) e

-- a row of a section that is in force
pub record IsInForce (rows : List Row) (section : Section) (p : Row → Bool) (row : Row) : Type 0 where
  pub place : ℕ
  pub is : slice_get rows place ≡ Some row
  pub of : is_of section row ≡ true
  pub passes : p row ≡ true

pub in_force : (rows : List Row) (section : Section) (p : Row → Bool) (row : Row)
    → last_where p (rows_of section rows) ≡ Some row → IsInForce rows section p row
in_force rows section p row e =
    let found = last_is p (rows_of section rows) row e in
    let stands = kept_stands (is_of section) rows found.0.place row found.0.is in
    record {
      place = stands.place;
      is = stands.is;
      of = kept_passes (is_of section) rows found.0.place row found.0.is;
      passes = found.1;
    }

-- what the default and each row have, what is said has it
pub say_is : {A : Type 0} (P : A → Type 0) (default : A) (read : Row → A) (o : Option Row) → P default
    → ((row : Row) → o ≡ Some row → P (read row))
    → P (say default read o)
say_is P default read None d each = d
say_is P default read (Some row) d each = each row refl

-- ---- keywords

word_there : (keyword : List ℕ) (o : Option (List ℕ)) → is_option_keyword keyword o ≡ true
    → is_keyword keyword (or_empty o) ≡ true
word_there keyword None e = absurd (true≢false (sym e))
word_there keyword (Some w) e = e

pub word_is_keyword : (k : ℕ) (keyword : List ℕ) (words : List (List ℕ)) → word_is k keyword words ≡ true
    → is_keyword keyword (word k words) ≡ true
word_is_keyword k keyword words e = word_there keyword (slice_get words k) e

-- a word that is a keyword is every keyword that this one is
pub keyword_same : (a b word : List ℕ) → is_keyword a word ≡ true → is_keyword b word ≡ is_keyword b a
unfolding is_keyword
keyword_same a b word e = ap (bytes_eq (map to_ascii_lowercase b))
    (sym (same_name (map to_ascii_lowercase a) (map to_ascii_lowercase word) e))

pub first_named_same : {A : Type 0} (entries : List (List ℕ × A)) (a word : List ℕ) → is_keyword a word ≡ true
    → first_named entries word ≡ first_named entries a
first_named_same [] a word e = refl
first_named_same (entry ∷ entries) a word e =
    rw (keyword_same a entry.0 word e) (ap (λ o. if is_keyword entry.0 a then Some entry.1 else o)
    (first_named_same entries a word e))

pub is_one_of_same : (keywords : List (List ℕ)) (a word : List ℕ) → is_keyword a word ≡ true
    → is_one_of keywords word ≡ is_one_of keywords a
is_one_of_same [] a word e = refl
is_one_of_same (keyword ∷ keywords) a word e =
    rw (keyword_same a keyword word e) (ap (λ b. if is_keyword keyword a then true else b)
    (is_one_of_same keywords a word e))

pub or_earlier_in_turn : (a b c : Option Row) → or_earlier (or_earlier a b) c ≡ or_earlier a (or_earlier b c)
or_earlier_in_turn (Some a) b c = refl
or_earlier_in_turn None b c = refl

pub none_last : (o : Option Row) → or_earlier None o ≡ or_earlier o None
none_last (Some row) = refl
none_last None = refl

pub last_where_push : (p : Row → Bool) (rows : List Row) (row : Row)
    → last_where p (rows ++ row ∷ []) ≡ or_earlier (where_passes p row) (last_where p rows)
last_where_push p [] row = none_last (where_passes p row)
last_where_push p (next ∷ rows) row =
    ap (λ o. or_earlier o (where_passes p next)) (last_where_push p rows row)
    ∙ or_earlier_in_turn (where_passes p row) (last_where p rows) (where_passes p next)
