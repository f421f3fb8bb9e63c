-- Lists that are written or read item by item, by their numbers.
use Rattle.std.proofs.Common.{◌≡◌, inl, inr, ℕ, zero, suc, ◌+◌, ◌<◌, List, [], ◌∷◌, ◌++◌, length, map}
use Rattle.std.proofs.Common.{Some, slice_get, slice_index_or, slice_set, refl, sym, ap, subst, ◌∙◌, arith}
use Rattle.std.specs.List.{AllZip, AllByRecursion}
use Rattle.std.proofs.lemmas.Bool.{cases_eq}
use Rattle.std.proofs.lemmas.List.{get_or-set_same, get_or-set_other, get_or_append_left, get_or_push}
use Rattle.hyd_spec.specs.Lists.{map_from}

-- an item is the same, whatever the default
pub any : {X : Type 0} (xs : List X) (k : ℕ) (a b : X) → k < length xs → slice_index_or xs k a ≡ slice_index_or xs k b
any [] k a b h = absurd (omega (arith, h))
any (x ∷ xs) zero a b h = refl
any (x ∷ xs) (suc k) a b h = any xs k a b (omega (arith, h))

-- an item that is there
pub got : {X : Type 0} (xs : List X) (k : ℕ) (d : X) → k < length xs → slice_get xs k ≡ Some (slice_index_or xs k d)
got [] k d h = absurd (omega (arith, h))
got (x ∷ xs) zero d h = refl
got (x ∷ xs) (suc k) d h = got xs k d (omega (arith, h))

pub within : {X : Type 0} (xs : List X) (k : ℕ) (x : X) → slice_get xs k ≡ Some x → k < length xs
within [] k x e = absurd (cc)
within (y ∷ xs) zero x e = omega arith
within (y ∷ xs) (suc k) x e = let h = within xs k x e in omega (arith, h)

pub is_item : {X : Type 0} (xs : List X) (k : ℕ) (x d : X) → slice_get xs k ≡ Some x → slice_index_or xs k d ≡ x
is_item [] k x d e = absurd (cc)
is_item (y ∷ xs) zero x d e = cc
is_item (y ∷ xs) (suc k) x d e = is_item xs k x d e

-- ---- writing

pub more_set : {X : Type 0} (P : ℕ → X → Type 0) (xs : List X) (i : ℕ) (x : X) → i < length xs
    → ((k : ℕ) (d : X) → k < i → P k (slice_index_or xs k d)) → P i x
    → (k : ℕ) (d : X) → k < i + 1 → P k (slice_index_or (slice_set xs i x) k d)
more_set {X} P xs i x inside all here k d lt = elim (cases_eq k i) [
  | inl e ↦ subst (λ (n : ℕ). P n (slice_index_or (slice_set xs i x) n d)) (sym e)
      (subst (P i) (sym (get_or-set_same xs i x d inside)) here)
  | inr ne ↦ subst (P k) (sym (get_or-set_other xs i k x d ne)) (all k d (omega (arith, ne, lt)))
]

pub more_pushed : {X : Type 0} (P : ℕ → X → Type 0) (xs : List X) (x : X)
    → ((k : ℕ) (d : X) → k < length xs → P k (slice_index_or xs k d)) → P (length xs) x
    → (k : ℕ) (d : X) → k < length xs + 1 → P k (slice_index_or (xs ++ x ∷ []) k d)
more_pushed {X} P xs x all here k d lt = elim (cases_eq k (length xs)) [
  | inl e ↦ subst (λ (n : ℕ). P n (slice_index_or (xs ++ x ∷ []) n d)) (sym e)
      (subst (P (length xs)) (sym (get_or_push xs x d (length xs) refl)) here)
  | inr ne ↦ let s : k < length xs = omega (arith, ne, lt) in
      subst (P k) (sym (get_or_append_left xs (x ∷ []) d k s)) (all k d s)
]

-- ---- beside numbered items

pub count_from : {X Y : Type 0} (f : ℕ → X → Y) (from : ℕ) (xs : List X) → length (map_from f from xs) ≡ length xs
count_from f from [] = refl
count_from f from (x ∷ xs) = ap suc (count_from f (suc from) xs)

pub got_from : {X Y : Type 0} (f : ℕ → X → Y) (from : ℕ) (xs : List X) (k : ℕ) (x : X) → slice_get xs k ≡ Some x
    → slice_get (map_from f from xs) k ≡ Some (f (from + k) x)
got_from f from [] k x e = absurd (cc)
got_from {X} {Y} f from (y ∷ xs) zero x e =
    let same : y ≡ x = cc in
    let first : from ≡ from + 0 = omega arith in
    ap (λ (z : X). Some (f from z)) same ∙ ap (λ (n : ℕ). Some (f n x)) first
got_from {X} {Y} f from (y ∷ xs) (suc k) x e =
    let next : suc from + k ≡ from + suc k = omega arith in
    got_from f (suc from) xs k x e ∙ ap (λ (n : ℕ). Some (f n x)) next

pub zipped_from : {X Y Z : Type 0} (f : ℕ → X → Z) (P : Z → Y → Type 0) (from : ℕ) (xs : List X) (ys : List Y)
    → length ys ≡ length xs
    → ((k : ℕ) (x : X) (y : Y) → slice_get xs k ≡ Some x → P (f (from + k) x) (slice_index_or ys k y))
    → AllZip P (map_from f from xs) ys
zipped_from f P from [] [] e all = tt
zipped_from f P from [] (y ∷ ys) e all = absurd (omega (arith, e))
zipped_from f P from (x ∷ xs) [] e all = absurd (omega (arith, e))
zipped_from {X} {Y} {Z} f P from (x ∷ xs) (y ∷ ys) e all =
    let first : from + 0 ≡ from = omega arith in (
      subst (λ (n : ℕ). P (f n x) y) first (all 0 x y refl),
      zipped_from f P (suc from) xs ys (omega (arith, e)) (λ k a b at.
          let next : from + suc k ≡ suc from + k = omega arith in
          subst (λ (n : ℕ). P (f n a) (slice_index_or ys k b)) next (all (suc k) a b at)),
    )

pub all_from : {X Z : Type 0} (f : ℕ → X → Z) (P : Z → Type 0) (from : ℕ) (xs : List X)
    → ((k : ℕ) (x : X) → slice_get xs k ≡ Some x → P (f (from + k) x)) → AllByRecursion P (map_from f from xs)
all_from f P from [] all = tt
all_from {X} {Z} f P from (x ∷ xs) all =
    let first : from + 0 ≡ from = omega arith in (
      subst (λ (n : ℕ). P (f n x)) first (all 0 x refl),
      all_from f P (suc from) xs (λ k a at.
          let next : from + suc k ≡ suc from + k = omega arith in
          subst (λ (n : ℕ). P (f n a)) next (all (suc k) a at)),
    )

-- a list that is read off another
pub read_off : {X Y : Type 0} (g : X → Y) (xs : List X) (ys : List Y) → AllZip (λ (x : X) (y : Y). y ≡ g x) xs ys
    → ys ≡ map g xs
read_off g [] [] zip = refl
read_off g [] (y ∷ ys) zip = absurd zip
read_off g (x ∷ xs) [] zip = absurd zip
read_off g (x ∷ xs) (y ∷ ys) zip = let rest = read_off g xs ys zip.1 in rw (zip.0, rest) refl

-- ---- numbered from 0

from_none : (k : ℕ) → k ≡ 0 + k
from_none k = omega arith

pub got_numbered : {X Y : Type 0} (f : ℕ → X → Y) (xs : List X) (k : ℕ) (x : X) → slice_get xs k ≡ Some x
    → slice_get (map_from f 0 xs) k ≡ Some (f k x)
got_numbered {X} {Y} f xs k x at =
    got_from f 0 xs k x at ∙ ap (λ (n : ℕ). Some (f n x)) (sym (from_none k))

pub zipped_numbered : {X Y Z : Type 0} (f : ℕ → X → Z) (P : Z → Y → Type 0) (xs : List X) (ys : List Y)
    → length ys ≡ length xs
    → ((k : ℕ) (x : X) (y : Y) → slice_get xs k ≡ Some x → P (f k x) (slice_index_or ys k y))
    → AllZip P (map_from f 0 xs) ys
zipped_numbered {X} {Y} {Z} f P xs ys e all =
    zipped_from f P 0 xs ys e (λ k x y at.
    subst (λ (n : ℕ). P (f n x) (slice_index_or ys k y)) (from_none k) (all k x y at))

pub all_numbered : {X Z : Type 0} (f : ℕ → X → Z) (P : Z → Type 0) (xs : List X)
    → ((k : ℕ) (x : X) → slice_get xs k ≡ Some x → P (f k x)) → AllByRecursion P (map_from f 0 xs)
all_numbered {X} {Z} f P xs all =
    all_from f P 0 xs (λ k x at. subst (λ (n : ℕ). P (f n x)) (from_none k) (all k x at))
