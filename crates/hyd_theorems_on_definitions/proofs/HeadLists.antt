-- Lists of heads: what stands at a place of two in a row, and that an order lasts.
use Rattle.std.proofs.Common.{ℕ, zero, suc, ◌+◌, ℤ, pos, ◌-ℤ◌, ◌≤ℤ◌, List, [], ◌∷◌, ◌++◌, arith, ◌≡◌, refl, map, length}
use Rattle.std.proofs.Common.{ap, ◌∙◌, ◌<◌}
use Rattle.std.proofs.lemmas.Int.{ints}
use Rattle.hyd_spec.specs.Assignment.{head_at}
use Rattle.std.specs.Prelude.{Some, slice_get}
use Rattle.hyd_spec.specs.Lists.{map_from}
use Rattle.hyd_spec_certificates.specs.Interval.{Interval}

pub fixed-in-order : (reservoirs xs ys : List ℤ) → ((m : ℕ) → (head_at xs m -ℤ head_at ys m) ≤ℤ pos 0)
    → (m : ℕ) → (head_at (reservoirs ++ xs) m -ℤ head_at (reservoirs ++ ys) m) ≤ℤ pos 0
fixed-in-order [] xs ys within m = within m
fixed-in-order (r ∷ reservoirs) xs ys within zero = omega (arith, ints)
fixed-in-order (r ∷ reservoirs) xs ys within (suc m) = fixed-in-order reservoirs xs ys within m

pub ends-in-order : (k : ℕ) (tanks : List Interval) →
    ((n : ℕ) (x : Interval) → slice_get tanks n ≡ Some x → x.lo ≤ℤ x.hi)
    → (m : ℕ) → (head_at (map_from (λ (i : ℕ) (x : Interval). x.lo) k tanks) m -ℤ head_at (map_from (λ (i : ℕ) (x :
    Interval). x.hi) k tanks) m) ≤ℤ pos 0
ends-in-order k [] order m = omega (arith, ints)
ends-in-order k (x ∷ tanks) order zero = let le = order 0 x refl in omega (arith, ints, le)
ends-in-order k (x ∷ tanks) order (suc m) = ends-in-order (suc k) tanks (λ n y at. order (suc n) y at) m

-- so many heads
pub heads_of : {X : Type 0} → List X → List ℤ
heads_of xs = map (λ _. pos 0) xs

-- a head behind those of a vector
pub head_behind : (u rest : List ℤ) (n r : ℕ) → length u ≡ n → head_at (u ++ rest) (n + r) ≡ head_at rest r
head_behind [] rest n r is = let m : n + r ≡ r = omega (arith, is) in ap (head_at rest) m
head_behind (h ∷ u) rest n r is =
    let m : n + r ≡ suc (length u + r) = omega (arith, is) in
    ap (head_at (h ∷ (u ++ rest))) m ∙ head_behind u rest (length u) r refl

-- a head in front of others
pub head_before : (u rest : List ℤ) (r : ℕ) → r < length u → head_at (u ++ rest) r ≡ head_at u r
head_before [] rest r within = absurd (omega arith)
head_before (h ∷ u) rest zero within = refl
head_before (h ∷ u) rest (suc r) within = head_before u rest r (omega arith)

pub heads_of-length : {X : Type 0} (xs : List X) → length (heads_of xs) ≡ length xs
unfolding heads_of
heads_of-length [] = refl
heads_of-length (x ∷ xs) = ap suc (heads_of-length xs)
