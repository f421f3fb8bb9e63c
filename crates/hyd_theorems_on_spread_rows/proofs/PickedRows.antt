-- The rows that count in a text without a fault have none.
use Rattle.std.proofs.Common.{◌≡◌, ℕ, suc, refl, sym, ap, subst, ◌∙◌, Bool, true, false, List, [], ◌∷◌, ◌⊎◌, inl, inr}
use Rattle.std.specs.Prelude.{Option, Some, None, slice_get, slice_index_or, nat_le, length, not, ◌&&◌, if◌then◌else◌}
use Rattle.std.specs.List.{list_all}
use Rattle.std.specs.Option.{option_map}
use Rattle.std.specs.Str.{bytes_eq}
use Rattle.std.proofs.lemmas.Bool.{and_parts}
use Rattle.hyd_net.specs.declared.refusal_cause.Cause.{Cause}
use Rattle.hyd_net.specs.declared.refusal_cause.Cause.TheVariants.{Syntax, Limit, UnknownName}
use Rattle.hyd_spec.specs.ProgramTypes.{Project}
use Rattle.hyd_spec_lines.specs.WordsOfLines.{text_lines, body, words_in, is_plain, is_keyword}
use Rattle.hyd_spec_lines.specs.Headings.{either}
use Rattle.hyd_spec_input.specs.Columns.{word, unless, needed, id}
use Rattle.hyd_spec_spread_rows.specs.declared.Subject.{Subject}
use Rattle.hyd_spec_spread_rows.specs.declared.Subject.TheVariants.{Demand, Emitter, Head, Level}
use Rattle.hyd_spec_spread_rows.specs.declared.Ends.{Ends}
use Rattle.hyd_spec_spread_rows.specs.RowsOfSpreads.{subject_of, is_all, is_known, number_words, row_fault, fault_about}
use Rattle.hyd_spec_spread_rows.specs.RowsOfSpreads.{ends_of}
use Rattle.hyd_spec_spread_rows.specs.TextsOfSpreads.{line_fault, words_fault, HasNoFault, rows_of, last_of, is_subject}
use Rattle.hyd_spec_spread_rows.specs.TextsOfSpreads.{names, names_all, row_for, ends_or}
use Rattle.hyd_theorems_on_input.proofs.ListsByPlace.{source}
use Rattle.hyd_theorems_on_input.proofs.RowsWithoutFault.{all_none, unless_none}

-- ---- the last row that a test picks

pub record Picked (test : List (List ℕ) → Bool) (rows : List (List (List ℕ))) (row : List (List ℕ)) : Type 0 where
  pub place : ℕ
  pub is : slice_get rows place ≡ Some row
  pub passes : test row ≡ true

pub either-some : {X : Type 0} (a b : Option X) (x : X) → either a b ≡ Some x → (a ≡ Some x) ⊎ (b ≡ Some x)
either-some (Some y) b x e = inl e
either-some None b x e = inr e

chosen : {X : Type 0} (b : Bool) (x y : X) → ◌≡◌ {A = Option X} (if b then Some x else None) (Some y)
    → (b ≡ true) × (x ≡ y)
chosen true x y e = (refl, cc)
chosen false x y e = absurd (cc)

pub picked : (test : List (List ℕ) → Bool) (rows : List (List (List ℕ))) (row : List (List ℕ))
    → last_of test rows ≡ Some row → Picked test rows row
picked test [] row e = absurd (cc)
picked test (x ∷ rows) row e =
    elim (either-some (last_of test rows) (if test x then Some x else None) row e) [
      | inl l ↦ let p = picked test rows row l in record { place = suc p.place; is = p.is; passes = p.passes }
      | inr r ↦ let c = chosen (test x) x row r in
          record { place = 0; is = ap Some c.1; passes = ap test (sym c.1) ∙ c.0 }
    ]

-- ---- its subject

pub subject-is : (o : Option Subject) (s : Subject) → is_subject o s ≡ true → o ≡ Some s
subject-is None s e = absurd (cc)
subject-is (Some Demand) Demand e = refl
subject-is (Some Demand) Emitter e = absurd (cc)
subject-is (Some Demand) Head e = absurd (cc)
subject-is (Some Demand) Level e = absurd (cc)
subject-is (Some Emitter) Demand e = absurd (cc)
subject-is (Some Emitter) Emitter e = refl
subject-is (Some Emitter) Head e = absurd (cc)
subject-is (Some Emitter) Level e = absurd (cc)
subject-is (Some Head) Demand e = absurd (cc)
subject-is (Some Head) Emitter e = absurd (cc)
subject-is (Some Head) Head e = refl
subject-is (Some Head) Level e = absurd (cc)
subject-is (Some Level) Demand e = absurd (cc)
subject-is (Some Level) Emitter e = absurd (cc)
subject-is (Some Level) Head e = absurd (cc)
subject-is (Some Level) Level e = refl

-- ---- no fault

no-subject : subject_of [] ≡ None
unfolding subject_of is_keyword
no-subject = refl

words-right : (project : Project) (text : List ℕ) (words : List (List ℕ)) (s : Subject) → subject_of words ≡ Some s
    → words_fault project text words ≡ None → row_fault project words ≡ None
words-right project text [] s about e =
    absurd (let f : ◌≡◌ {A = Option Subject} None (Some s) = sym no-subject ∙ about in cc)
words-right project text (w ∷ ws) s about e = by-case (list_all is_plain text) e
  where
    by-case : (b : Bool)
        → ◌≡◌ {A = Option Cause} (if b then row_fault project (w ∷ ws) else Some Syntax) None
        → row_fault project (w ∷ ws) ≡ None
    by-case true f = f
    by-case false f = absurd (cc)

line-right : (project : Project) (line : List ℕ) → line_fault project line ≡ None
    → words_fault project (body line) (words_in (body line)) ≡ None
line-right project line e = by-case (nat_le (length line) 1024) e
  where
    by-case : (b : Bool)
        → ◌≡◌ {A = Option Cause} (if b then words_fault project (body line) (words_in (body line)) else Some (Limit 2))
        None → words_fault project (body line) (words_in (body line)) ≡ None
    by-case true f = f
    by-case false f = absurd (cc)

-- what is right of a row that counts
pub record IsRight (project : Project) (s : Subject) (words : List (List ℕ)) : Type 0 where
  pub about : subject_of words ≡ Some s
  pub known : is_known project s (word 1 words) ≡ true
  pub numbers : number_words project s words ≡ None

pub right-row : (project : Project) (text : List ℕ) → HasNoFault project text → (s : Subject) (k : ℕ)
    (words : List (List ℕ)) → slice_get (rows_of (text_lines text)) k ≡ Some words
    → is_subject (subject_of words) s ≡ true → IsRight project s words
right-row project text none s k words at is =
    let about = subject-is (subject_of words) s is in
    let line = source (λ (l : List ℕ). words_in (body l)) (text_lines text) k words at in
    let fine = line-right project line.item (none.lines k line.item line.is) in
    let row : row_fault project words ≡ None =
    words-right project (body line.item) words s about
    (subst (λ ws. words_fault project (body line.item) ws ≡ None) line.gives fine) in
    let parts : fault_about project (Some s) words ≡ None =
    subst (λ o. fault_about project o words ≡ None) about row in
    let each = all_none (needed id 1 words ∷ unless (is_known project s (word 1 words)) UnknownName
    ∷ number_words project s words ∷ []) parts in
    record { about = about; known = unless_none _ _ each.1.0; numbers = each.1.1.0 }

-- the row that counts for a node: it names the node, or all
pub record Counts (project : Project) (s : Subject) (node : ℕ) (words : List (List ℕ)) : Type 0 where
  pub right : IsRight project s words
  pub means : (is_all (word 1 words) ≡ true) ⊎ ((is_all (word 1 words) ≡ false)
      × (bytes_eq (slice_index_or project.node_ids node []) (word 1 words) ≡ true))

not-true : (b : Bool) → not b ≡ true → b ≡ false
not-true true e = absurd (cc)
not-true false e = refl

pub counts : (project : Project) (text : List ℕ) → HasNoFault project text → (s : Subject) (node : ℕ)
    (words : List (List ℕ)) → row_for project s (rows_of (text_lines text)) node ≡ Some words
    → Counts project s node words
counts project text none s node words e =
    let rows = rows_of (text_lines text) in
    let id = slice_index_or project.node_ids node [] in
    elim (either-some (last_of (names s id) rows) (last_of (names_all s) rows) words e) [
      | inl l ↦
          let p = picked (names s id) rows words l in
          let parts = and_parts (is_subject (subject_of words) s)
          (not (is_all (word 1 words)) && bytes_eq id (word 1 words)) p.passes in
          let rest = and_parts (not (is_all (word 1 words))) (bytes_eq id (word 1 words)) parts.1 in
          record {
            right = right-row project text none s p.place words p.is parts.0;
            means = inr (not-true (is_all (word 1 words)) rest.0, rest.1);
          }
      | inr r ↦
          let p = picked (names_all s) rows words r in
          let parts = and_parts (is_subject (subject_of words) s) (is_all (word 1 words)) p.passes in
          record {
            right = right-row project text none s p.place words p.is parts.0;
            means = inl parts.1;
          }
    ]

-- so what holds of a node's own ends and of those of each row that counts for it holds of the ends for it
pub ends-case : (Q : Ends → Type 0) (project : Project) (s : Subject) (own : Ends) (o : Option (List (List ℕ)))
    → Q own → ((words : List (List ℕ)) → o ≡ Some words → Q (ends_of project s words))
    → Q (ends_or own (option_map (ends_of project s) o))
ends-case Q project s own None q f = q
ends-case Q project s own (Some words) q f = f words refl
