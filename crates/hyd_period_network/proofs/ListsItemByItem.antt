-- Lists that are written item by item.
use Rattle.std.proofs.Common.{◌≡◌, inl, inr, ℕ, zero, suc, ◌+◌, ◌<◌, ℤ, pos, ◌+ℤ◌, List, [], ◌∷◌, ◌++◌, length, map}
use Rattle.std.proofs.Common.{All, replicate, slice_get, slice_index_or, slice_set, refl, sym, ap, subst, ◌∙◌, arith}
use Rattle.std.specs.List.{AllZip}
use Rattle.std.specs.Option.{option_map_or}
use Rattle.std.proofs.lemmas.Bool.{cases_eq}
use Rattle.std.proofs.lemmas.List.{get_or-set_same, get_or-set_other, get_or_append_left, get_or_default, get_or_push}
use Rattle.hyd_spec.specs.ProgramTypes.{Tank}
use Rattle.hyd_spec_certificates.specs.SpansAsIntervals.{levels_of}
use Rattle.hyd_spec_certificates.specs.PeriodNetwork.{tank_intervals}
use Rattle.hyd_spec_certificates.specs.declared.LevelSpan.{LevelSpan}
use Rattle.hyd_period_network.specs.NetsSetToPeriods.{HasHeads}

-- what holds of the first items holds of one more, where it holds of the one that is written
pub more_set : {X : Type 0} (P : ℕ → X → Type 0) (xs : List X) (i : ℕ) (x : X) → i < length xs
    → ((k : ℕ) (d : X) → k < i → P k (slice_index_or xs k d)) → P i x
    → (k : ℕ) (d : X) → k < i + 1 → P k (slice_index_or (slice_set xs i x) k d)
more_set {X} P xs i x within all here k d lt = elim (cases_eq k i) [
  | inl e ↦ subst (λ (n : ℕ). P n (slice_index_or (slice_set xs i x) n d)) (sym e)
      (subst (P i) (sym (get_or-set_same xs i x d within)) here)
  | inr ne ↦ subst (P k) (sym (get_or-set_other xs i k x d ne)) (all k d (let s : k < i = omega (arith, ne) in s))
]

-- or of the one that is appended
pub more_pushed : {X : Type 0} (P : ℕ → X → Type 0) (xs : List X) (x : X)
    → ((k : ℕ) (d : X) → k < length xs → P k (slice_index_or xs k d)) → P (length xs) x
    → (k : ℕ) (d : X) → k < length xs + 1 → P k (slice_index_or (xs ++ x ∷ []) k d)
more_pushed {X} P xs x all here k d lt = elim (cases_eq k (length xs)) [
  | inl e ↦ subst (λ (n : ℕ). P n (slice_index_or (xs ++ x ∷ []) n d)) (sym e)
      (subst (P (length xs)) (sym (get_or_push xs x d (length xs) refl)) here)
  | inr ne ↦ let s : k < length xs = omega (arith, ne) in subst (P k) (sym (get_or_append_left xs (x ∷ []) d k s))
      (all k d s)
]

-- a tank's heads, by equations
pub heads_at : (tanks : List Tank) (levels : List LevelSpan) (i : ℕ) (t : Tank) (l h : LevelSpan) → i < length tanks
    → i < length levels
    → HasHeads (slice_index_or tanks i t) (slice_index_or levels i l) h → (tank : Tank) (span : LevelSpan)
    → HasHeads (slice_index_or tanks i tank) (slice_index_or levels i span) h
heads_at tanks levels i t l h it il has tank span =
    subst (λ (x : Tank). HasHeads x (slice_index_or levels i span) h) (get_or_default tanks i t tank it)
    (subst (λ (x : LevelSpan). HasHeads (slice_index_or tanks i t) x h) (get_or_default levels i l span il) has)

pub zipped : {X Y : Type 0} (P : X → Y → Type 0) (xs : List X) (ys : List Y) → length ys ≡ length xs
    → ((k : ℕ) (x : X) (y : Y) → k < length xs → P (slice_index_or xs k x) (slice_index_or ys k y)) → AllZip P xs ys
zipped P [] [] e all = tt
zipped P [] (y ∷ ys) e all = absurd (omega arith)
zipped P (x ∷ xs) [] e all = absurd (omega arith)
zipped P (x ∷ xs) (y ∷ ys) e all = (
  all 0 x y (omega arith),
  zipped P xs ys (omega arith)
      (λ k a b h. all (suc k) a b (omega arith)),
)

pub mapped : {X : Type 0} (f : X → ℤ) (xs : List X) (ys : List ℤ) → length ys ≡ length xs
    → ((k : ℕ) (y : ℤ) → k < length xs → slice_index_or ys k y ≡ option_map_or f (slice_get xs k) (pos 0))
    → ys ≡ map f xs
mapped f [] [] e all = refl
mapped f [] (y ∷ ys) e all = absurd (omega arith)
mapped f (x ∷ xs) [] e all = absurd (omega arith)
mapped f (x ∷ xs) (y ∷ ys) e all =
    let head : y ≡ f x = all 0 y (omega arith) in
    let rest : ys ≡ map f xs = mapped f xs ys (omega arith) (λ k d h. all (suc k) d (omega arith)) in
    rw (head, rest) refl

interval_is : (tank : Tank) (levels heads : LevelSpan) → HasHeads tank levels heads → levels_of heads ≡ record {
  lo = levels.lo +ℤ tank.bottom;
  hi = levels.hi +ℤ tank.bottom;
}
interval_is tank levels heads has = rw (has.lo, has.hi) refl

pub intervals : (tanks : List Tank) (levels heads : List LevelSpan) → length levels ≡ length tanks
    → length heads ≡ length tanks
    → ((k : ℕ) (s : LevelSpan) → k < length tanks → (tank : Tank) (l : LevelSpan)
    → HasHeads (slice_index_or tanks k tank) (slice_index_or levels k l) (slice_index_or heads k s))
    → map levels_of heads ≡ tank_intervals tanks (map levels_of levels)
intervals [] levels [] el eh all = refl
intervals [] levels (h ∷ heads) el eh all = absurd (omega arith)
intervals (t ∷ tanks) [] heads el eh all = absurd (omega arith)
intervals (t ∷ tanks) (l ∷ levels) [] el eh all = absurd (omega arith)
intervals (t ∷ tanks) (l ∷ levels) (h ∷ heads) el eh all =
    let first = interval_is t l h (all 0 h (omega arith) t l) in
    let rest = intervals tanks levels heads (omega arith) (omega arith)
    (λ k s lt tank span. all (suc k) s (omega arith) tank span) in
    rw (first, rest) refl

copies_all : {X : Type 0} (n : ℕ) (x : X) → All (λ (y : X). y ≡ x) (replicate n x)
copies_all zero x k d h = absurd (omega arith)
copies_all (suc n) x zero d h = refl
copies_all (suc n) x (suc k) d h = copies_all n x k d (omega arith)

pub all_copies : {X : Type 0} (n : ℕ) (x : X) (xs : List X) → xs ≡ replicate n x → All (λ (y : X). y ≡ x) xs
all_copies n x xs e = subst (λ ys. All (λ y. y ≡ x) ys) (sym e) (copies_all n x)

copies_count : {X : Type 0} (n : ℕ) (x : X) → length (replicate n x) ≡ n
copies_count zero x = refl
copies_count (suc n) x = ap suc (copies_count n x)

pub count_copies : {X : Type 0} (n : ℕ) (x : X) (xs : List X) → xs ≡ replicate n x → length xs ≡ n
count_copies n x xs e = ap length e ∙ copies_count n x
