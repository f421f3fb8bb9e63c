-- The least number that has a decided property, the first item that lacks one, and a list chosen item by item.
use Rattle.std.proofs.Common.{◌≡◌, ℕ, zero, suc, ◌<◌, ◌≤◌, ℤ, refl, subst, arith, List, [], ◌∷◌, length, inl, inr, ◌⊎◌}
use Rattle.std.specs.Prelude.{Some, slice_get}
use Rattle.std.proofs.lemmas.Bool.{cases_eq}
use Rattle.hyd_spec.specs.Lists.{Each}
use Rattle.hyd_spec.specs.Assignment.{head_at}
use Rattle.hyd_spec.specs.PeriodLength.{IsLeast}
use Rattle.hyd_lemmas.proofs.ListsOptionsAndResults.{same_item}

pub first-below : (P : ℕ → Type 0) → ((k : ℕ) → P k ⊎ (P k → ⊥)) → (n : ℕ) → ((k : ℕ) × IsLeast P k) ⊎
    ((m : ℕ) → m < n → P m → ⊥)
first-below P decide zero = inr (λ m lt is. absurd (omega (arith, lt)))
first-below P decide (suc n) = elim (first-below P decide n) [
  | inl found ↦ inl found
  | inr before ↦ elim (decide n) [
    | inl is ↦ inl (n, record { holds = is; least = λ m other. least m other before })
    | inr lacks ↦ inr (λ m lt is. elim (cases_eq m n) [
      | inl e ↦ lacks (subst P e is)
      | inr ne ↦ before m (omega (arith, lt, ne)) is
    ])
  ]
]
  where
    least : (m : ℕ) → P m → ((k : ℕ) → k < n → P k → ⊥) → n ≤ m
    least m other before = elim (cases_below m) [
      | inl lt ↦ absurd (before m lt other)
      | inr ge ↦ ge
    ]
      where
        cases_below : (m : ℕ) → (m < n) ⊎ (n ≤ m)
        cases_below m = Rattle.std.proofs.lemmas.Bool.cases_lt m n

-- the first item that lacks a property
pub record Lacks {X : Type 0} (P : ℕ → X → Type 0) (xs : List X) : Type 0 where
  pub place : ℕ
  pub item : X
  pub is_item : slice_get xs place ≡ Some item
  pub lacks : P place item → ⊥
  pub before : (k : ℕ) (x : X) → k < place → slice_get xs k ≡ Some x → P k x

pub each-cons : {X : Type 0} (P : ℕ → X → Type 0) (x : X) (xs : List X) → P 0 x → Each xs (λ k y. P (suc k) y) → Each
    (x ∷ xs) P
each-cons {X} P x xs first rest zero y e = subst (P 0) (same_item X x y e) first
each-cons {X} P x xs first rest (suc k) y e = rest k y e

lacks-later : {X : Type 0} (P : ℕ → X → Type 0) (x : X) (xs : List X) → P 0 x → Lacks (λ k y. P (suc k) y) xs
    → Lacks P (x ∷ xs)
lacks-later {X} P x xs first lacks = record {
  place = suc lacks.place;
  item = lacks.item;
  is_item = lacks.is_item;
  lacks = lacks.lacks;
  before = before;
}
  where
    before : (k : ℕ) (y : X) → k < suc lacks.place → slice_get (x ∷ xs) k ≡ Some y → P k y
    before zero y lt e = subst (P 0) (same_item X x y e) first
    before (suc k) y lt e = lacks.before k y (omega (arith, lt)) e

pub each-or-lacks : {X : Type 0} (P : ℕ → X → Type 0) → ((k : ℕ) (x : X) → P k x ⊎ (P k x → ⊥)) → (xs : List X)
    → Each xs P ⊎ Lacks P xs
each-or-lacks P decide [] = inl (λ k x e. absurd (cc))
each-or-lacks P decide (x ∷ xs) = elim (decide 0 x) [
  | inr missing ↦ inr (record {
    place = 0;
    item = x;
    is_item = refl;
    lacks = missing;
    before = λ k y lt e. absurd
        (omega (arith, lt));
  })
  | inl is ↦ elim (each-or-lacks (λ k y. P (suc k) y) (λ k y. decide (suc k) y) xs) [
    | inl rest ↦ inl (each-cons P x xs is rest)
    | inr lacks ↦ inr (lacks-later P x xs is lacks)
  ]
]

-- one value for each item
pub record Chosen {X : Type 0} (P : ℕ → X → ℤ → Type 0) (xs : List X) : Type 0 where
  pub values : List ℤ
  pub one_each : length values ≡ length xs
  pub are : Each xs (λ k x. P k x (head_at values k))

pub choose : {X : Type 0} (P : ℕ → X → ℤ → Type 0) (xs : List X) →
    ((k : ℕ) (x : X) → slice_get xs k ≡ Some x → (z : ℤ) × P k x z) → Chosen P xs
choose P [] each = record { values = []; one_each = refl; are = λ k x e. absurd (cc) }
choose P (x ∷ xs) each =
    let first = each 0 x refl in
    let rest = choose (λ k y z. P (suc k) y z) xs (λ k y e. each (suc k) y e) in
    record {
      values = first.0 ∷ rest.values;
      one_each = (let e = rest.one_each in omega (arith, e));
      are = each-cons
          (λ k y. P k y (head_at (first.0 ∷ rest.values) k)) x xs first.1 rest.are;
    }
