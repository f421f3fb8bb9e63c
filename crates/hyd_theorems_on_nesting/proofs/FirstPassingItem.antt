-- The first item of a list that passes a test, or none.
use Rattle.std.proofs.Common.{◌≡◌, ℕ, ◌<◌, ◌≤◌, refl, sym, ap, ◌∙◌, arith, Bool, true, false, List, [], ◌∷◌, length}
use Rattle.std.proofs.Common.{◌⊎◌, inl, inr}
use Rattle.std.specs.Prelude.{Option, Some, None, slice_get, Contains, position, nat_lt, if◌then◌else◌}
use Rattle.std.specs.List.{AllByRecursion, position_or_len}
use Rattle.std.proofs.lemmas.Bool.{cases_Bool}
use Rattle.std.proofs.lemmas.List.Quantifiers.{position-Some}
use Rattle.std.proofs.lemmas.List.Sums.{fails_before_first}
use Rattle.std.proofs.lemmas.Option.{slice_get-get_or, get_or_from_slice_get}
use Rattle.hyd_theorems_on_histories.proofs.WatchedLevels.{contains-here, contains-later}

-- the first item that passes a test, and its place
pub record IsFound (X : Type 0) (test : X → Bool) (xs : List X) : Type 0 where
  pub place : ℕ
  pub item : X
  pub is_place : position test xs ≡ Some place
  pub is_item : slice_get xs place ≡ Some item
  pub passes : test item ≡ true
  pub before : (k : ℕ) (x : X) → k < place → slice_get xs k ≡ Some x → test x ≡ false

-- there is none
pub record HasNone (X : Type 0) (test : X → Bool) (xs : List X) : Type 0 where
  pub is_none : position test xs ≡ None
  pub fails : (x : X) → Contains xs x → test x ≡ false

not-below : (a b : ℕ) → (if nat_lt a b then Some a else None) ≡ None → b ≤ a
not-below a b e = elim (cases_Bool (nat_lt a b)) [
  | inl lt ↦ absurd (let s : (if nat_lt a b then Some a else None) ≡ Some a = rw lt refl in
      let n : ◌≡◌ {A = Option ℕ} None (Some a) = sym e ∙ s in cc)
  | inr ge ↦ not-lt a b ge
]
  where
    not-lt : (a b : ℕ) → nat_lt a b ≡ false → b ≤ a
    not-lt a b e = grind arith

pub find_or_none : (X : Type 0) (test : X → Bool) (xs : List X) → IsFound X test xs ⊎ HasNone X test xs
find_or_none X test xs = by-place xs (position test xs) refl
  where
    found : (x : X) (ys : List X) (k : ℕ) → position test (x ∷ ys) ≡ Some k → IsFound X test (x ∷ ys)
    found x ys k e =
        let p = position-Some test (x ∷ ys) k x e in
        record {
          place = k;
          item = _;
          is_place = e;
          is_item = slice_get-get_or (x ∷ ys) k x p.0;
          passes = p.1;
          before = λ j y lt at. ap test (sym (get_or_from_slice_get (x ∷ ys) j y x at)) ∙ p.2 j lt;
        }

    by-place : (ys : List X) (o : Option ℕ) → position test ys ≡ o → IsFound X test ys ⊎ HasNone X test ys
    by-place ys None e = inr (record {
      is_none = e;
      fails = λ x c.
          let end = not-below (position_or_len test ys) (length ys) e in
          let within = c.1 in
          ap test (sym c.2) ∙ fails_before_first test ys c.0 x (omega (arith, end, within));
    })
    by-place [] (Some k) e = absurd (cc)
    by-place (x ∷ ys) (Some k) e = inl (found x ys k e)

-- where each item of a list has a property, so it is one after another
pub all_contained : (X : Type 0) (P : X → Type 0) (xs : List X) → ((x : X) → Contains xs x → P x) → AllByRecursion P xs
all_contained X P [] each = tt
all_contained X P (x ∷ xs) each = (
  each x (contains-here X x xs),
  all_contained X P xs
      (λ y c. each y (contains-later X y x xs c)),
)
