-- Lists by their places: what holds of each item, items that match, what a filter keeps.
use Rattle.std.proofs.Common.{◌≡◌, ℕ, ◌+◌, ◌<◌, zero, suc, Bool, true, false, List, [], ◌∷◌, ◌++◌, map, length, get_or}
use Rattle.std.proofs.Common.{take, drop, Some, refl, ap, ◌∙◌, subst, arith, inl, inr, append-nil, ◌==◌}
use Rattle.std.specs.Prelude.{slice_get, filter, ◌⊎◌}
use Rattle.std.specs.List.{All}
use Rattle.std.proofs.lemmas.List.{take_more}
use Rattle.std.proofs.lemmas.List.Elements.{All-filter, filter_passes, filter-append}
use Rattle.std.proofs.lemmas.Option.{slice_get_within, get_or_from_slice_get, slice_get-get_or}
use Rattle.hyd_spec_input.specs.Project.{Match}
use Rattle.hyd_spec_lines.specs.declared.section.Section.{Section}
use Rattle.hyd_spec_lines.specs.declared.section.Section.TheVariants.{Junctions}
use Rattle.hyd_spec_input.specs.SectionsAndTables.{place}

-- ---- each item

pub all_from : {X : Type 0} (P : X → Type 0) (xs : List X) → ((k : ℕ) (x : X) → slice_get xs k ≡ Some x → P x)
    → All P xs
all_from P xs each k d below = each k (get_or xs k d) (slice_get-get_or xs k d below)

pub all_at : {X : Type 0} (P : X → Type 0) (xs : List X) → All P xs → (k : ℕ) (x : X) → slice_get xs k ≡ Some x → P x
all_at P xs all k x is = subst P (get_or_from_slice_get xs k x x is) (all k x (slice_get_within xs k x is))

-- an item stands in a list
pub record Stands {X : Type 0} (xs : List X) (x : X) : Type 0 where
  pub place : ℕ
  pub is : slice_get xs place ≡ Some x

pub stand_all : {X : Type 0} (xs : List X) → All (Stands xs) xs
stand_all xs = all_from (Stands xs) xs (λ k x is. record { place = k; is = is })

pub kept_stands : {X : Type 0} (p : X → Bool) (xs : List X) (k : ℕ) (x : X) → slice_get (filter p xs) k ≡ Some x
    → Stands xs x
kept_stands p xs k x is = all_at (Stands xs) (filter p xs) (All-filter p (Stands xs) xs (stand_all xs)) k x is

pub kept_passes : {X : Type 0} (p : X → Bool) (xs : List X) (k : ℕ) (x : X) → slice_get (filter p xs) k ≡ Some x
    → p x ≡ true
kept_passes p xs k x is = all_at (λ y. p y ≡ true) (filter p xs) (filter_passes p xs) k x is

-- ---- items that match

pub record Partner {A B : Type 0} (R : A → B → Type 0) (xs : List A) (k : ℕ) (y : B) : Type 0 where
  pub item : A
  pub is : slice_get xs k ≡ Some item
  pub holds : R item y

pub partner : {A B : Type 0} (R : A → B → Type 0) (xs : List A) (ys : List B) (k : ℕ) (y : B) → Match R xs ys
    → slice_get ys k ≡ Some y → Partner R xs k y
partner R [] [] k y m e = absurd (let x : ⊥ = cc in x)
partner R [] (b ∷ bs) k y m e = absurd m
partner R (a ∷ rest) [] k y m e = absurd m
partner R (a ∷ rest) (b ∷ bs) zero y m e = let same : b ≡ y =
    cc in record { item = a; is = refl; holds = subst (R a) same m.0 }
partner R (a ∷ rest) (b ∷ bs) (suc k) y m e =
    let found = partner R rest bs k y m.1 e in record { item = found.item; is = found.is; holds = found.holds }

pub match_length : {A B : Type 0} (R : A → B → Type 0) (xs : List A) (ys : List B) → Match R xs ys
    → length xs ≡ length ys
match_length R [] [] m = refl
match_length R [] (b ∷ bs) m = absurd m
match_length R (a ∷ rest) [] m = absurd m
match_length R (a ∷ rest) (b ∷ bs) m = ap suc (match_length R rest bs m.1)

-- the item of a place
pub record Item {X : Type 0} (xs : List X) (k : ℕ) : Type 0 where
  pub item : X
  pub is : slice_get xs k ≡ Some item

pub item_at : {X : Type 0} (xs : List X) (k : ℕ) → k < length xs → Item xs k
item_at [] k l = absurd (omega arith)
item_at (x ∷ xs) zero l = record { item = x; is = refl }
item_at (x ∷ xs) (suc k) l = let found = item_at xs k (omega arith) in record { item = found.item; is = found.is }

-- what follows of each pair holds of each item
pub match_all : {A B : Type 0} (R : A → B → Type 0) (P : B → Type 0) (xs : List A) (ys : List B) → Match R xs ys
    → ((k : ℕ) (x : A) (y : B) → slice_get xs k ≡ Some x → slice_get ys k ≡ Some y → R x y → P y) → All P ys
match_all R P xs ys m each = all_from P ys (λ k y is. let found =
    partner R xs ys k y m is in each k found.item y found.is is found.holds)

-- ---- places in a map, in one list after another

pub record Source {X Y : Type 0} (f : X → Y) (xs : List X) (k : ℕ) (y : Y) : Type 0 where
  pub item : X
  pub is : slice_get xs k ≡ Some item
  pub gives : f item ≡ y

pub source : {X Y : Type 0} (f : X → Y) (xs : List X) (k : ℕ) (y : Y) → slice_get (map f xs) k ≡ Some y
    → Source f xs k y
source f [] k y e = absurd (let x : ⊥ = cc in x)
source f (x ∷ xs) zero y e = record { item = x; is = refl; gives = (cc) }
source f (x ∷ xs) (suc k) y e = let found =
    source f xs k y e in record { item = found.item; is = found.is; gives = found.gives }

-- an item of two lists is one of the first, or of the second
pub record Behind {X : Type 0} (xs ys : List X) (k : ℕ) (z : X) : Type 0 where
  pub place : ℕ
  pub is : slice_get ys place ≡ Some z
  pub behind : k ≡ length xs + place

pub of_either : {X : Type 0} (xs ys : List X) (k : ℕ) (z : X) → slice_get (xs ++ ys) k ≡ Some z
    → (slice_get xs k ≡ Some z) ⊎ Behind xs ys k z
of_either [] ys k z e = inr (record { place = k; is = e; behind = omega arith })
of_either (x ∷ xs) ys zero z e = inl e
of_either (x ∷ xs) ys (suc k) z e = elim (of_either xs ys k z e) [
  | inl l ↦ inl l
  | inr r ↦ inr (record { place = r.place; is = r.is; behind = omega (arith, r.behind) })
]

-- ---- the first items, one more

pub next_taken : {X : Type 0} (xs : List X) (k : ℕ) (x : X) → slice_get xs k ≡ Some x → take (k + 1) xs ≡ take k xs
    ++ x ∷ []
next_taken xs k x is = take_more xs k x (slice_get_within xs k x is) ∙ ap (λ y. take k xs ++ y ∷ [])
    (get_or_from_slice_get xs k x x is)

pub kept_more : {X : Type 0} (p : X → Bool) (xs : List X) (k : ℕ) (x : X) → slice_get xs k ≡ Some x → p x ≡ true
    → filter p (take (k + 1) xs) ≡ filter p (take k xs) ++ x ∷ []
kept_more p xs k x is passes = ap (filter p) (next_taken xs k x is) ∙ filter-append p (take k xs) (x ∷ [])
    ∙ rw passes refl

pub kept_same : {X : Type 0} (p : X → Bool) (xs : List X) (k : ℕ) (x : X) → slice_get xs k ≡ Some x → p x ≡ false
    → filter p (take (k + 1) xs) ≡ filter p (take k xs)
kept_same p xs k x is other = ap (filter p) (next_taken xs k x is) ∙ filter-append p (take k xs) (x ∷ [])
    ∙ rw other (append-nil (filter p (take k xs)))

-- a list by the item of a place
pub split_at : {X : Type 0} (xs : List X) (k : ℕ) (x : X) → slice_get xs k ≡ Some x
    → xs ≡ take k xs ++ x ∷ drop (suc k) xs
split_at [] k x e = absurd (let y : ⊥ = cc in y)
split_at (y ∷ xs) zero x e = let same : y ≡ x = cc in ap (λ z. z ∷ xs) same
split_at (y ∷ xs) (suc k) x e = ap (λ zs. y ∷ zs) (split_at xs k x e)

pub own_section : (section : Section) → (place section == place section) ≡ true
own_section Junctions = refl
own_section _ = refl
