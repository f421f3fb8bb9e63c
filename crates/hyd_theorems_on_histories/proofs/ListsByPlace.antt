-- Lists by place.
use Rattle.std.proofs.Common.{◌≡◌, ℕ, zero, suc, ◌+◌, ℤ, pos, refl, ap, ◌∙◌, arith, List, []}
use Rattle.std.proofs.Common.{◌∷◌, ◌++◌, map}
use Rattle.std.specs.Prelude.{Some, slice_get, slice_index_or}
use Rattle.std.specs.List.{AllByRecursion}
use Rattle.std.proofs.lemmas.Int.{ints}
use Rattle.hyd_spec.specs.Lists.{map_from}
use Rattle.hyd_spec_certificates.specs.Interval.{Interval}
use Rattle.hyd_spec_certificates.specs.Decided.{nowhere}
use Rattle.hyd_theorems_on_definitions.specs.LyingInIntervals.{LiesIn, LevelsLie}
use Rattle.hyd_lemmas.proofs.ListsOptionsAndResults.{numbered_at, same_item}

pub numbered_from_start : (X Y : Type 0) (f : ℕ → X → Y) (xs : List X) (k : ℕ) (x : X) (d : Y) → slice_get xs k ≡ Some x
    → slice_index_or (map_from f 0 xs) k d ≡ f k x
numbered_from_start X Y f xs k x d e =
    let n : 0 + k ≡ k = omega arith in numbered_at f 0 xs k x d e ∙ ap (λ (m : ℕ). f m x) n

-- levels lie in their intervals at every place
pub lies_at : (S : ℕ) (intervals : List Interval) (levels : List ℤ) (k : ℕ) → LevelsLie S intervals levels
    → LiesIn S (slice_index_or intervals k nowhere) (slice_index_or levels k (pos 0))
lies_at S [] [] k lie = record { low = omega (arith, ints); high = omega (arith, ints) }
lies_at S [] (z ∷ levels) k lie = absurd lie
lies_at S (x ∷ intervals) [] k lie = absurd lie
lies_at S (x ∷ intervals) (z ∷ levels) zero lie = lie.0
lies_at S (x ∷ intervals) (z ∷ levels) (suc k) lie = lies_at S intervals levels k lie.1

pub record IsMapped (X Y : Type 0) (f : X → Y) (xs : List X) (k : ℕ) (y : Y) : Type 0 where
  pub item : X
  pub is_item : slice_get xs k ≡ Some item
  pub same : f item ≡ y

-- an item of a mapped list is that of an item
pub mapped_at : (X Y : Type 0) (f : X → Y) (xs : List X) (k : ℕ) (y : Y) → slice_get (map f xs) k ≡ Some y
    → IsMapped X Y f xs k y
mapped_at X Y f [] k y e = absurd (cc)
mapped_at X Y f (x ∷ xs) zero y e = record { item = x; is_item = refl; same = same_item Y (f x) y e }
mapped_at X Y f (x ∷ xs) (suc k) y e =
    let m = mapped_at X Y f xs k y e in record { item = m.item; is_item = m.is_item; same = m.same }

pub all_after : (X : Type 0) (Q : X → Type 0) (xs ys : List X) → AllByRecursion Q xs → AllByRecursion Q ys
    → AllByRecursion Q (xs ++ ys)
all_after X Q [] ys front back = back
all_after X Q (x ∷ xs) ys front back = (front.0, all_after X Q xs ys front.1 back)
