-- Words, one at a time.
use Rattle.std.proofs.Common.{◌≡◌, ℕ, suc, ◌+◌, ◌==◌, ◌<◌, ◌≤◌, Bool, true, false, not, nat_le, List, [], ◌∷◌, length}
use Rattle.std.proofs.Common.{take, drop, refl, sym, ap, ◌∙◌, arith, inl, inr, one-add, add-one, drop-cons, get_or}
use Rattle.std.proofs.Common.{nat_lt, ltb-true, ltb-false}
use Rattle.std.specs.List.{position_or_len}
use Rattle.std.proofs.lemmas.Bool.{cases_Bool}
use Rattle.std.proofs.lemmas.Bool.Decides.{nat_tests}
use Rattle.std.proofs.lemmas.List.Splits.{slice_split_first}
use Rattle.std.proofs.lemmas.List.Sums.{prefix_len-le-length}
use Rattle.hyd_spec_lines.specs.WordsOfLines.{is_blank, words_in}
use Rattle.std.proofs.Math.Seq.{take-length, drop-length}
use Rattle.std.proofs.lemmas.List.{length-take, length-drop}
use Rattle.hyd_lex.proofs.FirstLine.{one_piece}

-- a blank in front of words
blank_before : (x : ℕ) (xs : List ℕ) → is_blank x ≡ true → words_in (x ∷ xs) ≡ words_in xs
unfolding words_in
blank_before x xs t = rw t refl

-- blanks in front of words
pub blanks_before : (xs : List ℕ) → words_in xs ≡ words_in (drop (position_or_len (λ byte. not (is_blank byte)) xs) xs)
blanks_before [] = refl
blanks_before (x ∷ xs) = elim (cases_Bool (is_blank x)) [
  | inl t ↦ rw (t, one-add) (blank_before x xs t ∙ blanks_before xs)
  | inr f ↦ rw f refl
]

no_words : words_in [] ≡ []
unfolding words_in
no_words = refl

-- no word but blanks
pub none_left : (xs : List ℕ) → drop (position_or_len (λ byte. not (is_blank byte)) xs) xs ≡ [] → words_in xs ≡ []
none_left xs e = blanks_before xs ∙ ap words_in e ∙ no_words

passes_at_first : (p : ℕ → Bool) (xs : List ℕ) → position_or_len p xs < length xs
    → p (get_or xs (position_or_len p xs) 0) ≡ true
passes_at_first p [] l = absurd (omega arith)
passes_at_first p (x ∷ xs) l = elim (cases_Bool (p x)) [
  | inl t ↦ rw t t
  | inr f ↦ (let m : 1 + position_or_len p xs < suc (length xs) = rw f at l in
      rw (f, one-add) (passes_at_first p xs (omega arith)))
]

-- a word that ends at a blank
ends_at_blank : (xs : List ℕ) → 0 < position_or_len is_blank xs → position_or_len is_blank xs < length xs
    → words_in xs ≡ take (position_or_len is_blank xs) xs ∷ words_in (drop (position_or_len is_blank xs) xs)
unfolding words_in
ends_at_blank xs some l =
    let n = position_or_len is_blank xs in
    let filled : nat_le 1 (length (take n xs)) ≡ true =
    (let m : 1 ≤ length (take n xs) = omega (arith, length-take n xs) in grind (arith, nat_tests)) in
    let next : drop n xs ≡ get_or xs n 0 ∷ drop (n + 1) xs = rw (add-one, drop-cons xs n 0) refl in
    let rest : words_in (drop n xs) ≡ words_in (drop (n + 1) xs) = ap words_in next
    ∙ blank_before (get_or xs n 0) (drop (n + 1) xs) (passes_at_first is_blank xs l) in
    rw (slice_split_first is_blank xs 0 l) (rw filled (ap (λ ws. take n xs ∷ ws) (sym rest)))

ends_at_end : (xs : List ℕ) → 0 < length xs → position_or_len is_blank xs ≡ length xs → words_in xs ≡ xs ∷ []
unfolding words_in
ends_at_end xs some e =
    let filled : nat_le 1 (length xs) ≡ true = grind (arith, nat_tests) in
    rw (one_piece is_blank xs e) (rw filled refl)

-- what is left after blanks begins with no blank
pub begins_well : (xs : List ℕ) → 0 < length (drop (position_or_len (λ byte. not (is_blank byte)) xs) xs)
    → 0 < position_or_len is_blank (drop (position_or_len (λ byte. not (is_blank byte)) xs) xs)
begins_well [] l = absurd (omega arith)
begins_well (x ∷ xs) l = elim (cases_Bool (is_blank x)) [
  | inl t ↦ (let m : 0 < length (drop (1 + position_or_len (λ byte. not (is_blank byte)) xs) (x ∷ xs)) = rw t at l in
      rw (t, one-add) (begins_well xs (rw one-add at m)))
  | inr f ↦ rw (f, f, one-add) (omega arith)
]

-- the first word of what is left
pub first_word : (xs : List ℕ) → 0 < position_or_len is_blank xs → words_in xs ≡ take (position_or_len is_blank xs) xs
    ∷ words_in (drop (position_or_len is_blank xs) xs)
first_word xs some = elim (cases_Bool (nat_lt (position_or_len is_blank xs) (length xs))) [
  | inl t ↦ ends_at_blank xs some (ltb-true (position_or_len is_blank xs) (length xs) t)
  | inr f ↦ (let a : length xs ≤ position_or_len is_blank xs = ltb-false (position_or_len is_blank xs) (length xs) f in
      let b : position_or_len is_blank xs ≤ length xs = prefix_len-le-length (λ x. not (is_blank x)) xs in
      let e : position_or_len is_blank xs ≡ length xs = omega (arith, a, b) in
      rw (e, take-length xs, drop-length xs, no_words) (ends_at_end xs (omega (arith, some, e)) e))
]

-- the first word of a body and what is behind it
pub split_is : (body rest word behind : List ℕ) → rest ≡ drop (position_or_len (λ byte. not (is_blank byte)) body) body
    → 0 < length rest
    → word ≡ take (position_or_len is_blank rest) rest → behind ≡ drop (position_or_len is_blank rest) rest
    → (words_in body ≡ word ∷ words_in behind) × (length behind < length body)
split_is body rest word behind r some w b =
    let n = position_or_len (λ byte. not (is_blank byte)) body in
    let begun : 0 < position_or_len is_blank rest = rw r (begins_well body (rw (← r) some)) in
    let all : words_in body ≡ words_in rest = blanks_before body ∙ ap words_in (sym r) in
    let l : length rest ≤ length body = omega (arith, ap length r, length-drop n body) in (
      all ∙ first_word rest begun ∙ rw (w, b) refl,
      omega (arith, ap length b, length-drop (position_or_len is_blank rest) rest, begun, some, l),
    )

pub empty_is : (xs : List ℕ) (b : Bool) → b ≡ (length xs == 0) → b ≡ true → xs ≡ []
empty_is [] b e t = refl
empty_is (x ∷ xs) b e t = absurd (let f : (suc (length xs) == 0) ≡ true = sym e ∙ t in let h : suc (length xs) ≡ 0 =
    grind (arith, nat_tests) in let z : ⊥ = absurd (omega arith) in z)

pub filled_is : (xs : List ℕ) (b : Bool) → b ≡ (length xs == 0) → b ≡ false → 0 < length xs
filled_is xs b e t = let f : (length xs == 0) ≡ false = sym e ∙ t in grind (arith, nat_tests)
