-- Facts that are tried by computing: tests of whole numbers, of lists, and of all numbers below one.
use Rattle.std.proofs.Common.{◌≡◌, ℕ, zero, suc, ◌+◌, ◌<◌, ◌≤◌, ℤ, ◌≤ℤ◌, Bool, true, false, ◌&&◌, ◌||◌, not}
use Rattle.std.proofs.Common.{if◌then◌else◌, inl, inr, List, [], ◌∷◌, length, int_le, refl, subst, arith, ◌<ℤ◌, ◌-◌}
use Rattle.std.proofs.Common.{nat_le}
use Rattle.std.specs.Prelude.{slice_get, slice_index_or, Some, Contains, int_lt, nat_lt}
use Rattle.std.specs.List.{list_any}
use Rattle.std.proofs.lemmas.Int.{ints}
use Rattle.std.proofs.lemmas.Bool.{cases_lt}
use Rattle.std.proofs.lemmas.Bool.Decides.{nat_tests}
use lib.Signed.{le_z, lt_z}

-- ---- whole numbers

pub le-yes : (a b : ℤ) → int_le a b ≡ true → a ≤ℤ b
le-yes a b e = grind (arith, ints)

pub le-from : (a b : ℤ) → a ≤ℤ b → int_le a b ≡ true
le-from a b le = grind (arith, ints)

-- ---- both, either

pub both-first : (a b : Bool) → (a && b) ≡ true → a ≡ true
both-first true b e = refl
both-first false b e = e

pub both-second : (a b : Bool) → (a && b) ≡ true → b ≡ true
both-second true b e = e
both-second false b e = absurd (cc)

pub or-left : (a b : Bool) → a ≡ true → (a || b) ≡ true
or-left true b e = refl
or-left false b e = absurd (cc)

pub or-right : (a b : Bool) → b ≡ true → (a || b) ≡ true
or-right true b e = refl
or-right false b e = e

pub and-true : (a b : Bool) → a ≡ true → b ≡ true → (a && b) ≡ true
and-true true b e g = g
and-true false b e g = absurd (cc)

pub same_either_way : (b : Bool) → (if b then false else false) ≡ false
same_either_way true = refl
same_either_way false = refl

-- ---- lists

-- whether each item of a list passes a test, with its number from k on
abbrev pub all_pass : {X : Type 0} → (ℕ → X → Bool) → ℕ → List X → Bool
all_pass test k [] = true
all_pass test k (x ∷ xs) = test k x && all_pass test (suc k) xs

pub each_passes : (X : Type 0) (test : ℕ → X → Bool) (k : ℕ) (xs : List X) → all_pass test k xs ≡ true
    → (j : ℕ) (x : X) → slice_get xs j ≡ Some x → test (k + j) x ≡ true
each_passes X test k [] e j x at = absurd (cc)
each_passes X test k (y ∷ ys) e zero x at =
    let same : y ≡ x = cc in let number : k ≡ k + 0 = omega arith in
    subst (λ (n : ℕ). test n x ≡ true) number (subst (λ (z : X). test k z ≡ true) same
    (both-first (test k y) (all_pass test (suc k) ys) e))
each_passes X test k (y ∷ ys) e (suc j) x at =
    let number : suc k + j ≡ k + suc j = omega arith in
    subst (λ (n : ℕ). test n x ≡ true) number (each_passes X test (suc k) ys
    (both-second (test k y) (all_pass test (suc k) ys) e) j x at)

any_at : (X : Type 0) (test : X → Bool) (xs : List X) (k : ℕ) (x : X) → k < length xs → slice_index_or xs k x ≡ x
    → test x ≡ true → list_any test xs ≡ true
any_at X test [] k x le at e = absurd (omega (arith, le))
any_at X test (y ∷ ys) zero x le at e = or-left (test y) (list_any test ys)
    (subst (λ (z : X). test z ≡ true) (let same : x ≡ y = cc in same) e)
any_at X test (y ∷ ys) (suc k) x le at e = or-right (test y) (list_any test ys)
    (any_at X test ys k x (omega (arith, le)) at e)

pub any_of : (X : Type 0) (test : X → Bool) (xs : List X) (x : X) → Contains xs x → test x ≡ true
    → list_any test xs ≡ true
any_of X test xs x is e = any_at X test xs is.0 x is.1 is.2 e

-- ---- numbers below one

-- whether a test fails at each number below n
abbrev pub none_below : (ℕ → Bool) → ℕ → Bool
none_below test zero = true
none_below test (suc n) = not (test n) && none_below test n

fails_below : (test : ℕ → Bool) (n : ℕ) → none_below test n ≡ true → (k : ℕ) → k < n → test k ≡ true → ⊥
fails_below test zero none k le e = omega (arith, le)
fails_below test (suc n) none k le e = elim (cases_lt k n) [
  | inl l ↦ fails_below test n (both-second (not (test n)) (none_below test n) none) k l e
  | inr g ↦ let same : k ≡ n = omega (arith, le, g) in
      let fails = both-first (not (test n)) (none_below test n) none in
      let holds = subst (λ (m : ℕ). test m ≡ true) same e in
      let wrong = subst (λ (b : Bool). not b ≡ true) holds fails in cc
]

-- what passes a test that fails below n is at least n
pub from : (test : ℕ → Bool) (n : ℕ) → none_below test n ≡ true → (k : ℕ) → test k ≡ true → n ≤ k
from test n none k e = elim (cases_lt k n) [ inl l ↦ absurd (fails_below test n none k l e) | inr g ↦ g ]

pub lt-from : (a b : ℤ) → a <ℤ b → int_lt a b ≡ true
lt-from a b less = grind (arith, ints)

pub lt-not : (a b : ℤ) → b ≤ℤ a → int_lt a b ≡ false
lt-not a b le = grind (arith, ints)

pub or-false : (a b : Bool) → (a || b) ≡ false → (a ≡ false) × (b ≡ false)
or-false true b e = absurd (cc)
or-false false b e = (refl, e)

pub lt-no : (a b : ℤ) → int_lt a b ≡ false → b ≤ℤ a
lt-no a b e = grind (arith, ints)

pub lt-yes : (a b : ℤ) → int_lt a b ≡ true → a <ℤ b
lt-yes a b e = grind (arith, ints)

pub and-false : (b : Bool) → (b && false) ≡ false
and-false true = refl
and-false false = refl

pub equal_by_order : (a b : ℕ) → (a < b → ⊥) → (b < a → ⊥) → a ≡ b
equal_by_order a b first second = omega (arith, first, second)

pub nat-lt-from : (a b : ℕ) → a < b → nat_lt a b ≡ true
nat-lt-from a b e = grind arith

pub nat-le-from : (a b : ℕ) → a ≤ b → nat_le a b ≡ true
nat-le-from a b l = grind (arith, nat_tests)

pub nat-lt-no : (a b : ℕ) → nat_lt a b ≡ false → b ≤ a
nat-lt-no a b e = grind arith

pub le-not : (a b : ℤ) → b <ℤ a → int_le a b ≡ false
le-not a b lt = grind (arith, ints)

pub le-no : (a b : ℤ) → int_le a b ≡ false → b <ℤ a
le-no a b e = grind (arith, ints)

pub le_z-yes : (a b : ℤ) → le_z a b ≡ true → a ≤ℤ b
le_z-yes a b h = grind (arith, ints)

pub lt_z-no : (a b : ℤ) → lt_z a b ≡ false → b ≤ℤ a
lt_z-no a b l = grind (arith, ints)

pub lt_z-yes : (a b : ℤ) → lt_z a b ≡ true → a <ℤ b
lt_z-yes a b h = grind (arith, ints)

pub or-turned : (a b c : Bool) → ((a || b) || c) ≡ (b || (a || c))
or-turned true true c = refl
or-turned true false c = refl
or-turned false true c = refl
or-turned false false c = refl

pub or-true : (b : Bool) → (b || true) ≡ true
or-true true = refl
or-true false = refl

pub nat-le-no : (n node : ℕ) → nat_le n node ≡ false → node < n
nat-le-no n node e = grind arith
