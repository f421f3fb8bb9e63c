-- A text has at most as many lines, items and words as bytes.
use Rattle.std.proofs.Common.{filter, nat_le, true, false, ◌<◌, Option, Some, None, IfSome, slice_get, sym, ◌≡◌, ℕ, suc}
use Rattle.std.proofs.Common.{◌+◌, ◌==◌, ◌≤◌, Bool, List, [], ◌∷◌, length, refl, arith, inl, inr, lit≤}
use Rattle.std.proofs.Common.{length-append}
use Rattle.std.specs.List.{slice_split, onto_first}
use Rattle.std.specs.Str.Lines.{strip_carriage_return}
use Rattle.std.proofs.lemmas.Bool.{cases_Bool}
use Rattle.std.proofs.lemmas.Bool.Decides.{nat_tests}
use Rattle.std.proofs.lemmas.List.{length-map}
use Rattle.std.proofs.lemmas.Option.{slice_get_within}
use denote.Ref.{Bor}
use Rattle.hyd_spec_lines.specs.WordsOfLines.{is_line_feed, is_blank, without_empty_end, text_lines, words_in, text_of}
use Rattle.hyd_spec_lines.specs.Lines.{given, is_heading, kind_of}
use Rattle.hyd_lex.specs.RemainingRows.{items, region_after}
use Rattle.hyd_spec_lines.specs.declared.section.Region.{Region}
use Rattle.hyd_spec_lines.specs.declared.section.Kind.{Kind}
use Rattle.hyd_spec_lines.specs.declared.section.Kind.TheVariants.{Nothing, Wrong, Row as RowOf, Opens}
use Rattle.hyd_lex.proofs.FirstLine.{more_pieces}

longer_first : (x : ℕ) (parts : List (List ℕ)) (n : ℕ) → length (without_empty_end parts) ≤ n
    → length (without_empty_end (onto_first x parts)) ≤ suc n
longer_first x [] n h = let filled : (1 == 0) ≡ false = refl in omega arith
longer_first x (part ∷ []) n h =
    let filled : (suc (length part) == 0) ≡ false = grind (arith, nat_tests) in
    rw filled (omega arith)
longer_first x (part ∷ next ∷ rest) n h = omega (arith, h)

few_pieces : (p : ℕ → Bool) (t : List ℕ) → length (without_empty_end (slice_split p t)) ≤ length t
few_pieces p [] = lit≤ tt
few_pieces p (x ∷ xs) = elim (cases_Bool (p x)) [
  | inl t ↦ rw (t, more_pieces p [] xs) (omega (arith, few_pieces p xs))
  | inr f ↦ rw f (longer_first x (slice_split p xs) (length xs) (few_pieces p xs))
]

pub few_lines : (t : List ℕ) → length (text_lines t) ≤ length t
few_lines t = omega (
  arith,
  few_pieces is_line_feed t,
  length-map (without_empty_end (slice_split is_line_feed t)) strip_carriage_return,
)

few_given : (k : Kind) (n : ℕ) (line : List ℕ) → length (given k n line) ≤ 1
few_given Nothing n line = lit≤ tt
few_given (Wrong cause) n line = lit≤ tt
few_given (RowOf section) n line = lit≤ tt
few_given (Opens region) n line = lit≤ tt

pub few_items : (region : Region) (n : ℕ) (lines : List (List ℕ)) → length (items region n lines) ≤ length lines
few_items region n [] = lit≤ tt
few_items region n (line ∷ lines) =
    omega (
      arith,
      few_given (kind_of region line) n line,
      few_items (region_after (is_heading line) region (kind_of region line)) (n + 1) lines,
      length-append (given (kind_of region line) n line)
          (items (region_after (is_heading line) region (kind_of region line)) (n + 1) lines),
    )

-- ---- a body has at most as many words as bytes

is_word : List ℕ → Bool
is_word piece = nat_le 1 (length piece)

filled : (x : ℕ) (xs : List ℕ) → is_word (x ∷ xs) ≡ true
unfolding is_word
filled x xs = let some : 1 ≤ suc (length xs) = omega arith in grind (arith, nat_tests)

longer_word : (x : ℕ) (parts : List (List ℕ))
    → length (filter is_word (onto_first x parts)) ≤ suc (length (filter is_word parts))
longer_word x [] = rw (filled x []) (lit≤ tt)
longer_word x (part ∷ parts) = elim (cases_Bool (is_word part)) [
  | inl t ↦ rw (t, filled x part) (omega arith)
  | inr f ↦ rw (f, filled x part) (omega arith)
]

few_filled : (p : ℕ → Bool) (t : List ℕ) → length (filter is_word (slice_split p t)) ≤ length t
unfolding is_word
few_filled p [] = lit≤ tt
few_filled p (x ∷ xs) = elim (cases_Bool (p x)) [
  | inl t ↦ rw t (omega (arith, few_filled p xs))
  | inr f ↦ (let e : length (filter is_word (onto_first x (slice_split p xs))) ≤ suc (length xs) =
      omega (arith, longer_word x (slice_split p xs), few_filled p xs) in
      rw f e)
]

pub few_words : (body : List ℕ) → length (words_in body) ≤ length body
unfolding words_in is_word
few_words body = few_filled is_blank body

-- a word that is there has a number below the bytes of its body
pub word_within : (body : List ℕ) (k most : ℕ) (word : Option (Bor (List ℕ))) → text_of word
    ≡ slice_get (words_in body) k → length body ≤ most
    → IfSome word (λ w. k < most)
word_within body k most None e l = tt
word_within body k most (Some w) e l =
    let n : k < length (words_in body) = slice_get_within (words_in body) k w.now (sym e) in
    omega (arith, few_words body, n, l)
