-- The first place of a list that passes a test.
use Rattle.std.proofs.Common.{◌≡◌, ◌⊎◌, inl, inr, ℕ, zero, suc, ◌+◌, ◌<◌, ◌≤◌, Bool, true, false, List, [], ◌∷◌, length}
use Rattle.std.proofs.Common.{Some, None, nat_lt, slice_index_or, position, if◌then◌else◌, refl, ap, sym, ◌∙◌, arith}
use Rattle.std.specs.List.{position_or_len}
use Rattle.std.proofs.lemmas.List.Sums.{position_or_len_is, fails_before_first}
use Rattle.hyd_lemmas.proofs.ListsOptionsAndResults.{any_default}
use Rattle.hyd_lemmas.proofs.BooleanTests.{nat-lt-from}

nat_le_or : (k i : ℕ) → k ≤ i → (k < i) ⊎ (k ≡ i)
nat_le_or zero zero h = inr refl
nat_le_or zero (suc i) h = inl (omega arith)
nat_le_or (suc k) zero h = absurd (omega arith)
nat_le_or (suc k) (suc i) h = elim (nat_le_or k i (omega arith)) [
  | inl l ↦ inl (omega arith)
  | inr e ↦ inr
      (ap suc e)
]

not_below : (a b : ℕ) → b ≤ a → nat_lt a b ≡ false
not_below a b h = grind arith

pub first_is : {X : Type 0} (test : X → Bool) (xs : List X) (i : ℕ) (d : X) → i < length xs
    → ((k : ℕ) → k < i → test (slice_index_or xs k d) ≡ false) → test (slice_index_or xs i d) ≡ true
    → position test xs ≡ Some i
first_is {X} test xs i d h before here =
    let at = position_or_len_is test xs i d (omega arith) before (λ _. here) in
    ap (λ (n : ℕ). if nat_lt n (length xs) then Some n else None) at
    ∙ ap (λ (b : Bool). if b then Some i else None) (nat-lt-from i (length xs) h)

none_up_to : {X : Type 0} (test : X → Bool) (xs : List X) (d : X)
    → ((k : ℕ) → k < length xs → test (slice_index_or xs k d) ≡ false) → position test xs ≡ None
none_up_to {X} test xs d before =
    let at = position_or_len_is test xs (length xs) d (omega arith) before (λ h. absurd (omega arith)) in
    ap (λ (n : ℕ). if nat_lt n (length xs) then Some n else None) at
    ∙ ap (λ (b : Bool). if b then Some (length xs) else None) (not_below (length xs) (length xs) (omega arith))

pub none_is : {X : Type 0} (test : X → Bool) (xs : List X)
    → ((k : ℕ) (d : X) → k < length xs → test (slice_index_or xs k d) ≡ false) → position test xs ≡ None
none_is {X} test [] before = refl
none_is {X} test (x ∷ xs) before = none_up_to test (x ∷ xs) x (λ k h. before k x h)

-- One place more that doesn't pass.
pub one_more : {X : Type 0} (test : X → Bool) (xs : List X) (i : ℕ) (here : X) → i < length xs
    → ((k : ℕ) (d : X) → k < i → test (slice_index_or xs k d) ≡ false) → here ≡ slice_index_or xs i here
    → test here ≡ false
    → (k : ℕ) (d : X) → k < i + 1 → test (slice_index_or xs k d) ≡ false
one_more {X} test xs i here within before is fails k d h =
    elim (nat_le_or k i (omega (arith, h))) [
      | inl below ↦ before k d below
      | inr e ↦ ap (λ n. test (slice_index_or xs n d)) e ∙ ap test (any_default xs i d here within ∙ sym is) ∙ fails
    ]

-- Where no place passes, no item does.
pub fails : {X : Type 0} (test : X → Bool) (xs : List X) → position test xs ≡ None → (k : ℕ) (d : X)
    → k < length xs → test (slice_index_or xs k d) ≡ false
fails {X} test xs none k d h =
    let past : (b : Bool) → nat_lt (position_or_len test xs) (length xs) ≡ b → length xs ≤ position_or_len test xs =
    λ b. elim b as (λ b. nat_lt (position_or_len test xs) (length xs) ≡ b → length xs ≤ position_or_len test xs) [
      | true ↦ λ e. let wrong : (if nat_lt (position_or_len test xs) (length xs) then Some
          (position_or_len test xs) else None) ≡ Some (position_or_len test xs) =
          ap (λ (b : Bool). if b then Some (position_or_len test xs) else None) e in absurd (cc)
      | false ↦ λ e. grind arith
    ] in
    fails_before_first test xs k d (omega (arith, past (nat_lt (position_or_len test xs) (length xs)) refl))

-- The two cases of a search.
pub found_at : {X : Type 0} (test : X → Bool) (rows xs : List X) (i : ℕ) (here : X) → rows ≡ xs → i < length rows
    → ((k : ℕ) (d : X) → k < i → test (slice_index_or rows k d) ≡ false) → here ≡ slice_index_or rows i here
    → test here ≡ true
    → Some i ≡ position test xs
found_at {X} test rows xs i here are within before is passes =
    sym (ap (λ (l : List X). position test l) (sym are)
    ∙ first_is test rows i here within (λ k h. before k here h) (ap test (sym is) ∙ passes))

pub found_none : {X : Type 0} (test : X → Bool) (rows xs : List X) → rows ≡ xs
    → ((k : ℕ) (d : X) → k < length rows → test (slice_index_or rows k d) ≡ false) → None ≡ position test xs
found_none {X} test rows xs are before = sym (ap (λ (l : List X). position test l) (sym are)
    ∙ none_is test rows before)
