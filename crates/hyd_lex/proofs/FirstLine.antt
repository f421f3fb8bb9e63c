-- The first line of a text.
use Rattle.std.proofs.Common.{◌≡◌, ℕ, suc, ◌+◌, ◌==◌, ◌<◌, Bool, false, List, [], ◌∷◌, length, take, drop, map, refl}
use Rattle.std.proofs.Common.{ap, ◌∙◌, arith, inl, inr}
use Rattle.std.specs.List.{position_or_len, before_first, after_first, slice_split, onto_first}
use Rattle.std.specs.Str.Lines.{strip_carriage_return}
use Rattle.std.proofs.Math.Seq.{drop-length}
use Rattle.std.proofs.lemmas.Bool.{cases_Bool}
use Rattle.std.proofs.lemmas.Bool.Decides.{nat_tests}
use Rattle.std.proofs.lemmas.List.Splits.{slice_split_first}
use Rattle.hyd_spec_lines.specs.WordsOfLines.{is_line_feed, without_empty_end, text_lines}

-- a text without a line feed is one piece
pub one_piece : (p : ℕ → Bool) (xs : List ℕ) → position_or_len p xs ≡ length xs → slice_split p xs ≡ xs ∷ []
one_piece p [] h = refl
one_piece p (x ∷ xs) h = elim (cases_Bool (p x)) [
  | inl t ↦ (let e : 0 ≡ suc (length xs) = rw t at h in absurd (omega arith))
  | inr f ↦ (let e : 1 + position_or_len p xs ≡ suc (length xs) = rw f at h in
      let i : slice_split p xs ≡ xs ∷ [] = one_piece p xs (omega arith) in
      rw (f, i) refl)
]

some : (x : List ℕ) (parts : List (List ℕ)) (y : ℕ) → without_empty_end (x ∷ onto_first y parts) ≡ x
    ∷ without_empty_end (onto_first y parts)
some x [] y = refl
some x (part ∷ parts) y = refl

-- there is always a first piece
pub more_pieces : (p : ℕ → Bool) (x : List ℕ) (xs : List ℕ) → without_empty_end (x ∷ slice_split p xs) ≡ x
    ∷ without_empty_end (slice_split p xs)
more_pieces p x [] = refl
more_pieces p x (y ∷ ys) = elim (cases_Bool (p y)) [
  | inl t ↦ rw t refl
  | inr f ↦ rw f (some x (slice_split p ys) y)
]

-- a line before a line feed
pub line_before_feed : (t : List ℕ) → position_or_len is_line_feed t < length t
    → text_lines t ≡ strip_carriage_return (take (position_or_len is_line_feed t) t)
    ∷ text_lines (drop (position_or_len is_line_feed t + 1) t)
line_before_feed t h =
    ap (λ pieces. map strip_carriage_return (without_empty_end pieces)) (slice_split_first is_line_feed t 0 h)
    ∙ ap (map strip_carriage_return) (more_pieces is_line_feed (before_first is_line_feed t)
    (after_first is_line_feed t))

-- the last line
pub line_at_end : (t : List ℕ) → 0 < length t → position_or_len is_line_feed t ≡ length t
    → text_lines t ≡ strip_carriage_return t ∷ text_lines (drop (length t) t)
line_at_end t some h =
    let filled : (length t == 0) ≡ false = grind (arith, nat_tests) in
    rw (one_piece is_line_feed t h, drop-length t) (rw filled refl)
