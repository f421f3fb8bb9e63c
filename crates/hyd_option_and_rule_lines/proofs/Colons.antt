-- A word split at its colons.
use Rattle.std.proofs.Common.{◌≡◌, ℕ, ◌+◌, ◌-◌, ◌<◌, ◌≤◌, Bool, true, false, List, [], ◌∷◌, length, take, drop, nat_lt}
use Rattle.std.proofs.Common.{position, refl, sym, ap, arith, Some, None, inl, inr, ltb-true, ltb-false, le_antisymm}
use Rattle.std.proofs.Common.{not, true≢false}
use Rattle.std.specs.List.{slice_split, onto_first, list_any, position_or_len}
use Rattle.std.proofs.lemmas.Bool.{cases_Bool, or_parts}
use Rattle.std.proofs.lemmas.List.{take_rest}
use Rattle.std.proofs.lemmas.List.Sums.{prefix_len-le-length}
use Rattle.std.proofs.lemmas.List.Splits.{slice_split_first}
use Rattle.hyd_lex.proofs.FirstLine.{one_piece}
use Rattle.hyd_spec_input.specs.TimesAndClockTimes.{is_colon, has_colon, are_parts}

pub split_at : (p : ℕ → Bool) (xs : List ℕ) (k : ℕ) → position p xs ≡ Some k → slice_split p xs ≡ take k xs
    ∷ slice_split p (take (length xs - (k + 1)) (drop (k + 1) xs))
split_at p xs k e = elim (cases_Bool (nat_lt (position_or_len p xs) (length xs))) [
  | inl t ↦ (let f : Some (position_or_len p xs) ≡ Some k = rw t at e in
      let g : position_or_len p xs ≡ k = cc in
      let l : position_or_len p xs < length xs = ltb-true (position_or_len p xs) (length xs) t in
      rw (take_rest xs (k + 1), ← g) (slice_split_first p xs 0 l))
  | inr f ↦ (let h : None ≡ Some k = rw f at e in absurd (let x : ⊥ = cc in x))
]

pub not_split : (p : ℕ → Bool) (xs : List ℕ) → position p xs ≡ None → slice_split p xs ≡ xs ∷ []
not_split p xs e = elim (cases_Bool (nat_lt (position_or_len p xs) (length xs))) [
  | inl t ↦ (let f : Some (position_or_len p xs) ≡ None = rw t at e in absurd (let x : ⊥ = cc in x))
  | inr f ↦ one_piece p xs (le_antisymm (prefix_len-le-length (λ x. not (p x)) xs)
      (ltb-false (position_or_len p xs) (length xs) f))
]

pub not_within : (p : ℕ → Bool) (xs : List ℕ) (k : ℕ) → position p xs ≡ Some k → length xs ≤ k → ⊥
not_within p xs k e l = elim (cases_Bool (nat_lt (position_or_len p xs) (length xs))) [
  | inl t ↦ (let f : Some (position_or_len p xs) ≡ Some k = rw t at e in
      let g : position_or_len p xs ≡ k = cc in
      let m : position_or_len p xs < length xs = ltb-true (position_or_len p xs) (length xs) t in absurd (omega arith))
  | inr f ↦ (let h : None ≡ Some k = rw f at e in (let x : ⊥ = cc in x))
]

pub no_colon : (p : ℕ → Bool) (xs : List ℕ) → list_any p xs ≡ false → slice_split p xs ≡ xs ∷ []
no_colon p [] e = refl
no_colon p (x ∷ xs) e =
    let q = or_parts (p x) (list_any p xs) e in
    rw (q.0, no_colon p xs q.1) refl

onto_some : (x : ℕ) (parts : List (List ℕ)) → (a : List ℕ) × (more : List (List ℕ)) × (onto_first x parts ≡ a ∷ more)
onto_some x [] = (x ∷ [], [], refl)
onto_some x (part ∷ parts) = (x ∷ part, parts, refl)

-- there is a first piece
some_piece : (p : ℕ → Bool) (xs : List ℕ) → (a : List ℕ) × (more : List (List ℕ)) × (slice_split p xs ≡ a ∷ more)
some_piece p [] = ([], [], refl)
some_piece p (x ∷ xs) = elim (cases_Bool (p x)) [
  | inl t ↦ rw t ([], slice_split p xs, refl)
  | inr f ↦ rw f (onto_some x (slice_split p xs))
]

-- a word with a colon has a second piece
some_first : (x : ℕ) (parts : List (List ℕ)) → (a : List ℕ) × (b : List ℕ) × (more : List (List ℕ))
    × (parts ≡ a ∷ (b ∷ more))
    → (a : List ℕ) × (b : List ℕ) × (more : List (List ℕ)) × (onto_first x parts ≡ a ∷ (b ∷ more))
some_first x parts s = (x ∷ s.0, s.1, s.2, ap (onto_first x) s.3)

pub two_pieces : (p : ℕ → Bool) (xs : List ℕ) → list_any p xs ≡ true → (a : List ℕ) × (b : List ℕ)
    × (more : List (List ℕ)) × (slice_split p xs ≡ a ∷ (b ∷ more))
two_pieces p [] e = absurd (true≢false (sym e))
two_pieces p (x ∷ xs) e = elim (cases_Bool (p x)) [
  | inl t ↦ (let s = some_piece p xs in rw t ([], s.0, s.1, ap (λ (ps : List (List ℕ)). [] ∷ ps) s.2))
  | inr f ↦ (let g : list_any p xs ≡ true = rw f at e in rw f (some_first x (slice_split p xs) (two_pieces p xs g)))
]

pub too_many : (word hours minutes rest : List ℕ) → slice_split is_colon word ≡ hours
    ∷ (minutes ∷ slice_split is_colon rest) → has_colon rest ≡ true
    → are_parts (slice_split is_colon word) ≡ false
too_many word hours minutes rest e h =
    let s = two_pieces is_colon rest h in
    rw (e, s.3) refl
