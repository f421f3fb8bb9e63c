-- How wide intervals are.
use Rattle.std.proofs.Common.{◌≡◌, ℕ, zero, suc, ◌+◌, ◌-◌, ◌<◌, ◌≤◌, ℤ, pos, ◌-ℤ◌, ◌≤ℤ◌, ◌<ℤ◌, List, [], ◌∷◌}
use Rattle.std.proofs.Common.{length, drop, refl, subst, arith, inl, inr}
use Rattle.std.specs.Prelude.{slice_index_or}
use Rattle.std.specs.Int.{int_max}
use Rattle.std.proofs.lemmas.Int.{ints}
use Rattle.std.proofs.lemmas.Bool.{cases_lt}
use Rattle.std.proofs.lemmas.Option.{slice_get_within, get_or_from_slice_get, slice_get-get_or}
use Rattle.hyd_spec.specs.Assignment.{head_at}
use Rattle.hyd_spec.specs.Lists.{Each}
use Rattle.hyd_spec_certificates.specs.Interval.{Interval, width}
use Rattle.hyd_spec_certificates.specs.Narrow.{widest}
use Rattle.hyd_spec_certificates.specs.Decided.{nowhere}

-- no head of the vectors is farther than so far above, each of them looked at
pub all-within : (upper lower : List ℤ) (most : ℤ) (j : ℕ) → length upper ≤ j
    → ((k : ℕ) → k < j → (head_at upper k -ℤ head_at lower k) ≤ℤ most)
    → Each upper (λ k h. (h -ℤ head_at lower k) ≤ℤ most)
all-within upper lower most j all before = λ k h at.
    subst (λ (x : ℤ). (x -ℤ head_at lower k) ≤ℤ most) (get_or_from_slice_get upper k h (pos 0) at)
    (before k (let less = slice_get_within upper k h at in omega (arith, less, all)))

-- one that is farther
pub not-within : (upper lower : List ℤ) (most gap : ℤ) (j : ℕ) → j < length upper
    → gap ≡ head_at upper j -ℤ head_at lower j → most <ℤ gap
    → Each upper (λ k h. (h -ℤ head_at lower k) ≤ℤ most) → ⊥
not-within upper lower most gap j within is wide each =
    let at = each j (head_at upper j) (slice_get-get_or upper j (pos 0) within) in
    omega (arith, ints, is, wide, at)

-- one more
pub more-within : (upper lower : List ℤ) (most gap : ℤ) (j : ℕ) → gap ≡ head_at upper j -ℤ head_at lower j
    → gap ≤ℤ most → ((k : ℕ) → k < j → (head_at upper k -ℤ head_at lower k) ≤ℤ most)
    → (k : ℕ) → k < j + 1 → (head_at upper k -ℤ head_at lower k) ≤ℤ most
more-within upper lower most gap j is small before k less = elim (cases_lt k j) [
  | inl earlier ↦ before k earlier
  | inr later ↦ (let same : j ≡ k = omega (arith, less, later) in
      subst (λ (n : ℕ). (head_at upper n -ℤ head_at lower n) ≤ℤ most) same (subst (λ (x : ℤ). x ≤ℤ most) is small))
]

-- ---- intervals

-- what holds of each that was looked at holds of all
pub each-within : (P : ℕ → Interval → Type 0) (xs : List Interval) (n : ℕ) → length xs ≤ n
    → ((k : ℕ) → k < n → P k (slice_index_or xs k nowhere)) → Each xs P
each-within P xs n all before = λ k x at.
    subst (P k) (get_or_from_slice_get xs k x nowhere at)
    (before k (let less = slice_get_within xs k x at in omega (arith, less, all)))

-- of one it doesn't hold
pub not-each : (P : ℕ → Interval → Type 0) (xs : List Interval) (k : ℕ) → k < length xs
    → (P k (slice_index_or xs k nowhere) → ⊥) → Each xs P → ⊥
not-each P xs k within never each = never (each k (slice_index_or xs k nowhere) (slice_get-get_or xs k nowhere within))

-- one more
pub one-more : (P : ℕ → Type 0) (n : ℕ) → P n → ((k : ℕ) → k < n → P k) → (k : ℕ) → k < n + 1 → P k
one-more P n here before k less = elim (cases_lt k n) [
  | inl earlier ↦ before k earlier
  | inr later ↦ (let same : n ≡ k = omega (arith, less, later) in subst P same here)
]

-- the widest of the last of some intervals, with one more before them
pub widest-more : (xs : List Interval) (k : ℕ) → k < length xs
    → widest (drop k xs) ≡ int_max (width (slice_index_or xs k nowhere)) (widest (drop (suc k) xs))
widest-more [] k less = absurd (omega (arith, less))
widest-more (x ∷ xs) zero less = refl
widest-more (x ∷ xs) (suc k) less = widest-more xs k (omega (arith, less))
