-- Lines of a text without a fault, with one more.
use Rattle.std.proofs.Common.{◌≡◌, ℕ, zero, suc, ◌+◌, ◌<◌, ◌≤◌, refl, sym, ap, subst, ◌∙◌, arith, List, [], ◌∷◌, ◌++◌}
use Rattle.std.proofs.Common.{false, length, drop, append_assoc, length-append, length-drop}
use Rattle.std.proofs.lemmas.List.{drop-drop}
use Rattle.std.specs.Prelude.{Option, Some, None, slice_get}
use Rattle.hyd_net.specs.declared.refusal_cause.Cause.{Cause}
use Rattle.hyd_spec.specs.ProgramTypes.{Project}
use Rattle.hyd_spec_lines.specs.WordsOfLines.{text_lines, body, words_in, is_keyword}
use Rattle.hyd_spec_spread_rows.specs.declared.Subject.{Subject}
use Rattle.hyd_spec_spread_rows.specs.declared.Subject.TheVariants.{Demand, Emitter, Head, Level}
use Rattle.hyd_spec_spread_rows.specs.RowsOfSpreads.{subject_of}
use Rattle.hyd_spec_spread_rows.specs.TextsOfSpreads.{line_fault, rows_of, is_subject}
use Rattle.hyd_lemmas.proofs.ListsOptionsAndResults.{same_item}
use Rattle.hyd_spread_rows.specs.RowsSaid.{AreSaid, HasPlaces}
use Rattle.hyd_spread_rows.specs.SpreadsRead.{HasRead}
use Rattle.hyd_spread_rows.specs.declared.said.Tables.{Tables}
use Rattle.hyd_spread_rows.proofs.SaidLemmas.{said-other}

-- ---- a line without words

blank : (subject : Subject) → is_subject (subject_of []) subject ≡ false
unfolding subject_of is_keyword
blank Demand = refl
blank Emitter = refl
blank Head = refl
blank Level = refl

pub blank-said : (project : Project) (rows : List (List (List ℕ))) (tables : Tables) → AreSaid project rows tables
    → AreSaid project (rows ++ [] ∷ []) tables
blank-said project rows tables said = record {
  demands = said-other project Demand rows [] tables.demands (blank Demand) said.demands;
  emitters = said-other project Emitter rows [] tables.emitters (blank Emitter) said.emitters;
  heads = said-other project Head rows [] tables.heads (blank Head) said.heads;
  levels = said-other project Level rows [] tables.levels (blank Level) said.levels;
}

-- ---- a line more

pub rows-more : (before : List (List ℕ)) (line : List ℕ)
    → rows_of (before ++ line ∷ []) ≡ rows_of before ++ words_in (body line) ∷ []
rows-more [] line = refl
rows-more (x ∷ before) line = let rest = rows-more before line in λ i. words_in (body x) ∷ rest i

item-more : (P : List ℕ → Type 0) (before : List (List ℕ)) (line : List ℕ) → P line
    → ((k : ℕ) (x : List ℕ) → slice_get before k ≡ Some x → P x)
    → (k : ℕ) (x : List ℕ) → slice_get (before ++ line ∷ []) k ≡ Some x → P x
item-more P [] line here each zero x at = subst P (same_item (List ℕ) line x at) here
item-more P [] line here each (suc k) x at = absurd (cc)
item-more P (y ∷ before) line here each zero x at = each 0 x at
item-more P (y ∷ before) line here each (suc k) x at =
    item-more P before line here (λ m z there. each (suc m) z there) k x at

pub read-next : (project : Project) (text : List ℕ) (at number used : ℕ) (line : List ℕ) (old new : Tables)
    → HasRead project text at number old
    → text_lines (drop at text) ≡ line ∷ text_lines (drop used (drop at text)) → 0 < used
    → used ≤ length (drop at text) → line_fault project line ≡ None
    → ((rows : List (List (List ℕ))) → AreSaid project rows old
    → AreSaid project (rows ++ words_in (body line) ∷ []) new) → HasPlaces project new
    → HasRead project text (at + used) (number + 1) new
read-next project text at number used line old new is lines some within fine said places =
    let a = is.within in
    let b = is.few in
    let c = is.count in
    record {
      within = omega (arith, a, within, length-drop at text);
      few = omega (arith, b, some);
      before = is.before ++ line ∷ [];
      count = omega (arith, c, length-append is.before (line ∷ []));
      lines = is.lines ∙ ap (λ ls. is.before ++ ls) lines
          ∙ sym (append_assoc is.before (line ∷ []) (text_lines (drop used (drop at text))))
          ∙ ap (λ xs. (is.before ++ line ∷ []) ++ text_lines xs) (drop-drop used at text);
      fine = item-more (λ l. ◌≡◌ {A = Option Cause} (line_fault project l) None) is.before line fine is.fine;
      said = subst (λ rows. AreSaid project rows new) (sym (rows-more is.before line))
          (said (rows_of is.before) is.said);
      places = places;
    }
