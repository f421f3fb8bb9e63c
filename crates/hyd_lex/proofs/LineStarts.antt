-- Where the lines of a text begin.
use Rattle.std.proofs.Common.{◌≡◌, ℕ, zero, suc, ◌+◌, ◌-◌, ◌<◌, Bool, true, List, [], ◌∷◌, length, take, drop, filter}
use Rattle.std.proofs.Common.{slice_get, slice_range, Some, get_or, refl, sym, ap, ◌∙◌, arith, inl, inr, one-add}
use Rattle.std.proofs.Common.{length-append}
use Rattle.std.specs.List.{position_or_len}
use Rattle.std.proofs.Math.Seq.{take-add}
use Rattle.std.proofs.lemmas.Bool.{cases_Bool}
use Rattle.std.proofs.lemmas.List.{drop-drop, length-drop, get_or-drop}
use Rattle.std.proofs.lemmas.List.Elements.{filter-append}
use Rattle.std.proofs.lemmas.List.Sums.{passes_at_first}
use Rattle.hyd_spec_lines.specs.WordsOfLines.{text_lines, body, is_line_feed}
use Rattle.hyd_spec_lines.specs.Lines.{LineBegins, IsLineOf}
use Rattle.hyd_spec_lines.specs.declared.line.Line.{Line}
use Rattle.hyd_lex.specs.RemainingRows.{Stands}

-- up to the first that passes, one passes
one_passes : (p : ℕ → Bool) (xs : List ℕ) → position_or_len p xs < length xs
    → length (filter p (take (position_or_len p xs + 1) xs)) ≡ 1
one_passes p [] l = absurd (omega arith)
one_passes p (x ∷ xs) l = elim (cases_Bool (p x)) [
  | inl t ↦ rw (t, t) refl
  | inr f ↦ (let m : 1 + position_or_len p xs < suc (length xs) = rw f at l in
      let n : suc (position_or_len p xs) + 1 ≡ suc (position_or_len p xs + 1) = omega arith in
      rw (f, one-add, n, f) (one_passes p xs (omega arith)))
]

rest_of : (n : ℕ) (xs ys : List (List ℕ)) (y : List ℕ) → drop n xs ≡ y ∷ ys → drop (n + 1) xs ≡ ys
rest_of n xs ys y e = sym (drop-drop 1 n xs) ∙ ap (drop 1) e

first_of : (n : ℕ) (xs ys : List (List ℕ)) (y : List ℕ) → drop n xs ≡ y ∷ ys → slice_get xs n ≡ Some y
first_of zero [] ys y e = absurd (let l : 0 ≡ length (y ∷ ys) = ap length e in omega arith)
first_of zero (x ∷ xs) ys y e = ap (λ zs. slice_get zs 0) e
first_of (suc n) [] ys y e = absurd (let l : 0 ≡ length (y ∷ ys) = ap length e in omega arith)
first_of (suc n) (x ∷ xs) ys y e = first_of n xs ys y e

pub stands_first : (text : List ℕ) → Stands text 0 0
stands_first text = record { lines = refl; begins = λ some. record { feeds = refl; behind = inl refl } }

-- the place behind a line feed
begins_next : (text : List ℕ) (at used n : ℕ) → LineBegins text at n → at + used < length text
    → used ≡ position_or_len is_line_feed (drop at text) + 1 → LineBegins text (at + used) (n + 1)
begins_next text at used n b l u =
    let rest = drop at text in
    let place = position_or_len is_line_feed rest in
    let within : place < length rest = omega (arith, length-drop at text, u, l) in
    let one : length (filter is_line_feed (take used rest)) ≡ 1 = rw u (one_passes is_line_feed rest within) in
    let feed : is_line_feed (get_or text (at + place) 0) ≡ true =
    ap is_line_feed (sym (get_or-drop at text place 0)) ∙ passes_at_first is_line_feed rest 0 within in
    let last : at + used - 1 ≡ at + place = omega (arith, u) in
    record {
      feeds =
          rw (take-add at used text, filter-append is_line_feed (take at text) (take used rest))
          (omega (
            arith,
            length-append (filter is_line_feed (take at text)) (filter is_line_feed (take used rest)),
            one,
            b.feeds,
          ));
      behind = inr (rw last feed);
    }

-- one line further
pub stands_next : (text : List ℕ) (at used n : ℕ) (line : List ℕ) → Stands text at n → at < length text
    → text_lines (drop at text) ≡ line ∷ text_lines (drop used (drop at text))
    → (used < length (drop at text) → used ≡ position_or_len is_line_feed (drop at text) + 1)
    → Stands text (at + used) (n + 1)
stands_next text at used n line s some e feed = record {
  lines =
      ap text_lines (sym (drop-drop used at text))
      ∙ sym (rest_of n (text_lines text) (text_lines (drop used (drop at text))) line (sym s.lines ∙ e));
  begins = λ l. begins_next text at used n (s.begins some) l (feed (omega (arith, length-drop at text, l)));
}

-- the reader's line is the text's
pub line_is : (text : List ℕ) (at used n : ℕ) (line : List ℕ) (given : Line) → Stands text at n → at < length text
    → text_lines (drop at text) ≡ line ∷ text_lines (drop used (drop at text))
    → given.number ≡ n + 1 → given.from ≡ at → given.to ≡ at + length (body line)
    → slice_range text at (at + length (body line)) ≡ body line
    → IsLineOf text given
line_is text at used n line given s some e number from to bytes =
    let k : given.number - 1 ≡ n = omega (arith, number) in
    record {
      from = rw (from, k) (s.begins some);
      whole = line;
      whole_is = rw k (first_of n (text_lines text) (text_lines (drop used (drop at text))) line (sym s.lines ∙ e));
      to = rw from to;
      bytes = rw (from, to) bytes;
    }
