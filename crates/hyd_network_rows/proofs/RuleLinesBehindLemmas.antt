-- The lines of rules behind a place, one line further.
use Rattle.std.proofs.Common.{◌≡◌, ◌+◌, ◌<◌, ℕ, Bool, true, false, List, ◌∷◌, length, drop, get_or, refl, sym, ap, ◌∙◌}
use Rattle.std.proofs.Common.{arith, drop-cons, add-one, suc}
use Rattle.std.proofs.lemmas.List.{get_or-map, length-map}
use Rattle.hyd_spec_lines.specs.Lines.{Row, row_of}
use Rattle.hyd_spec_lines.specs.declared.line.Line.{Line}
use Rattle.hyd_spec_lines.specs.declared.section.Section.TheVariants.{Rules}
use Rattle.hyd_spec_input.specs.RuleRows.{begins_with, is_rule, is_then, some_then, until_rule}
use Rattle.hyd_spec_input.specs.SectionsAndTables.{is_of, words_of}
use Rattle.hyd_rows_and_tables.specs.RowsOfLines.{rows_at}

abbrev pub then_in : List Row → Bool
then_in rows = some_then (until_rule (words_of Rules rows))

-- the rows behind a place
rest_is : (text : List ℕ) (lines : List Line) (k : ℕ) (d : Line) → k < length lines
    → drop k (rows_at text lines) ≡ row_of text (get_or lines k d) ∷ drop (k + 1) (rows_at text lines)
rest_is text lines k d l =
    let m : k < length (rows_at text lines) = omega (arith, l, length-map lines (row_of text)) in
    rw (add-one, drop-cons (rows_at text lines) k (row_of text d) m)
    (ap (λ (r : Row). r ∷ drop (suc k) (rows_at text lines)) (get_or-map (row_of text) lines k d (row_of text d) l))

pub other_row : (text : List ℕ) (lines : List Line) (k : ℕ) (d : Line) → k < length lines
    → is_of Rules (row_of text (get_or lines k d)) ≡ false
    → then_in (drop (k + 1) (rows_at text lines)) ≡ then_in (drop k (rows_at text lines))
other_row text lines k d l other = sym (ap then_in (rest_is text lines k d l) ∙ rw other refl)

pub next_rule : (text : List ℕ) (lines : List Line) (k : ℕ) (d : Line) → k < length lines
    → is_of Rules (row_of text (get_or lines k d)) ≡ true
    → is_rule (begins_with (row_of text (get_or lines k d)).words) ≡ true
    → false ≡ then_in (drop k (rows_at text lines))
next_rule text lines k d l member begun = sym (ap then_in (rest_is text lines k d l) ∙ rw (member, begun) refl)

pub then_here : (text : List ℕ) (lines : List Line) (k : ℕ) (d : Line) → k < length lines
    → is_of Rules (row_of text (get_or lines k d)) ≡ true
    → is_rule (begins_with (row_of text (get_or lines k d)).words) ≡ false
    → is_then (begins_with (row_of text (get_or lines k d)).words) ≡ true
    → true ≡ then_in (drop k (rows_at text lines))
then_here text lines k d l member begun found =
    sym (ap then_in (rest_is text lines k d l) ∙ rw (member, begun, found) refl)

pub next_line : (text : List ℕ) (lines : List Line) (k : ℕ) (d : Line) → k < length lines
    → is_of Rules (row_of text (get_or lines k d)) ≡ true
    → is_rule (begins_with (row_of text (get_or lines k d)).words) ≡ false
    → is_then (begins_with (row_of text (get_or lines k d)).words) ≡ false
    → then_in (drop (k + 1) (rows_at text lines)) ≡ then_in (drop k (rows_at text lines))
next_line text lines k d l member begun found =
    sym (ap then_in (rest_is text lines k d l) ∙ rw (member, begun, found) refl)
