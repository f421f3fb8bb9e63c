-- How often names occur: names that occur once at most, and sums over them.
use Rattle.std.proofs.Common.{◌≡◌, ℕ, ◌+◌, ◌*◌, ◌<◌, ◌≤◌, zero, suc, Bool, true, false, List, [], ◌∷◌, ◌++◌, length}
use Rattle.std.proofs.Common.{get_or, Some, None, refl, sym, ap, ◌∙◌, arith, inl, inr, true≢false}
use Rattle.std.specs.Prelude.{slice_get, sum_by, ◌||◌, not}
use Rattle.std.specs.List.{position_or_len}
use Rattle.std.proofs.Math.Nat.{mul-le-mul_left}
use Rattle.std.proofs.lemmas.List.Sums.{sum_by-cons}
use Rattle.std.specs.Str.{bytes_eq}
use Rattle.std.proofs.lemmas.Bool.{cases_Bool, or_from, or_left, or_right, false_from_ne_true, lt-ltb, cond-true}
use Rattle.std.proofs.lemmas.List.Quantifiers.{position-Some}
use Rattle.std.proofs.lemmas.Option.{slice_get-get_or}
use Rattle.std.proofs.lemmas.Slice.Eq.{bytes_eq-Decides}
use Rattle.hyd_net.specs.Ids.{AreDistinct}
use Rattle.hyd_spec_input.specs.MeaningsAcrossRows.{is_among, new_names, number_in}

-- ---- equal names

pub same_name : (a b : List ℕ) → bytes_eq a b ≡ true → a ≡ b
same_name a b e = (bytes_eq-Decides a b).0 e

pub itself : (a : List ℕ) → bytes_eq a a ≡ true
itself a = (bytes_eq-Decides a a).1 refl

pub other_name : (a b : List ℕ) → (a ≡ b → ⊥) → bytes_eq a b ≡ false
other_name a b apart = false_from_ne_true (bytes_eq a b) (λ e. apart (same_name a b e))

pub exchanged_names : (a b : List ℕ) → bytes_eq a b ≡ bytes_eq b a
exchanged_names a b = elim (cases_Bool (bytes_eq a b)) [
  | inl t ↦ (let same : a ≡ b = same_name a b t in rw (same) refl)
  | inr f ↦ f ∙ sym (other_name b a (λ e. true≢false (sym (rw e (itself a)) ∙ f)))
]

-- ---- occurrences

-- a number in one case alone
abbrev pub when : Bool → ℕ → ℕ
when true n = n
when false n = 0

abbrev pub occurs : List ℕ → List (List ℕ) → ℕ
occurs name [] = 0
occurs name (id ∷ ids) = when (bytes_eq name id) 1 + occurs name ids

-- no name occurs twice
abbrev pub Once : List (List ℕ) → Type 0
Once ids = (name : List ℕ) → occurs name ids ≤ 1

pub occurs_append : (name : List ℕ) (xs ys : List (List ℕ)) → occurs name (xs ++ ys) ≡ occurs name xs + occurs name ys
occurs_append name [] ys = omega arith
occurs_append name (x ∷ xs) ys = omega (arith, occurs_append name xs ys)

pub occurs_at : (name : List ℕ) (ids : List (List ℕ)) (k : ℕ) → slice_get ids k ≡ Some name → 1 ≤ occurs name ids
occurs_at name [] k e = absurd (let x : ⊥ = cc in x)
occurs_at name (id ∷ ids) zero e = let same : id ≡ name = cc in rw same (rw (itself name) (omega arith))
occurs_at name (id ∷ ids) (suc k) e = omega (arith, occurs_at name ids k e)

occurs_twice : (name : List ℕ) (ids : List (List ℕ)) (i j : ℕ) → i < j → slice_get ids i ≡ Some name
    → slice_get ids j ≡ Some name → 2 ≤ occurs name ids
occurs_twice name [] i j l e f = absurd (let x : ⊥ = cc in x)
occurs_twice name (id ∷ ids) i zero l e f = absurd (omega arith)
occurs_twice name (id ∷ ids) zero (suc j) l e f =
    let same : id ≡ name = cc in rw same (rw (itself name) (omega (arith, occurs_at name ids j f)))
occurs_twice name (id ∷ ids) (suc i) (suc j) l e f = omega (arith, occurs_twice name ids i j (omega arith) e f)

-- names that occur once are distinct
pub distinct : (ids : List (List ℕ)) → Once ids → AreDistinct ids
distinct ids once i j d before inside same =
    let a : slice_get ids i ≡ Some (get_or ids i d) = slice_get-get_or ids i d (omega (arith, before, inside)) in
    let b : slice_get ids j ≡ Some (get_or ids j d) = slice_get-get_or ids j d inside in
    let c : slice_get ids j ≡ Some (get_or ids i d) = b ∙ ap Some (sym same) in
    absurd (omega (arith, occurs_twice (get_or ids i d) ids i j before a c, once (get_or ids i d)))

-- ---- the number of a name

pub number_inside : (ids : List (List ℕ)) (name : List ℕ) (n : ℕ) → number_in ids name ≡ Some n → n < length ids
number_inside ids name n e = (position-Some (bytes_eq name) ids n name e).0

pub number_names : (ids : List (List ℕ)) (name : List ℕ) (n : ℕ) → number_in ids name ≡ Some n
    → slice_get ids n ≡ Some name
number_names ids name n e =
    let found = position-Some (bytes_eq name) ids n name e in
    slice_get-get_or ids n name found.0 ∙ ap Some (sym (same_name name _ found.1))

-- ---- new names

-- a name that was there before doesn't occur, any other once at most
new_once_more : (name id : List ℕ) (seen ids : List (List ℕ)) (b : Bool) → bytes_eq name id ≡ b
    → is_among id seen ≡ false
    → occurs name (new_names (id ∷ seen) ids) ≤ when (not (bytes_eq name id || is_among name seen)) 1
    → when (bytes_eq name id) 1 + occurs name (new_names (id ∷ seen) ids) ≤ when (not (is_among name seen)) 1
new_once_more name id seen ids true e f rest =
    let same : name ≡ id = same_name name id e in
    let g : is_among name seen ≡ false = rw same f in
    let none : occurs name (new_names (id ∷ seen) ids) ≤ 0 = rw e at rest in
    rw (e, g) (omega (arith, none))
new_once_more name id seen ids false e f rest =
    let few : occurs name (new_names (id ∷ seen) ids) ≤ when (not (is_among name seen)) 1 = rw e at rest in
    rw e (omega (arith, few))

pub new_once : (name : List ℕ) (seen names : List (List ℕ)) → occurs name (new_names seen names) ≤ when
    (not (is_among name seen)) 1
new_once name seen [] = omega arith
new_once name seen (id ∷ ids) = elim (cases_Bool (is_among id seen)) [
  | inl t ↦ rw t (new_once name seen ids)
  | inr f ↦ rw f (new_once_more name id seen ids (bytes_eq name id) refl f (new_once name (id ∷ seen) ids))
]

pub names_once : (names : List (List ℕ)) → Once (new_names [] names)
names_once names name = new_once name [] names

-- a new name is one of the names
new_among_more : (name id : List ℕ) (seen ids : List (List ℕ)) (k : ℕ) → slice_get (id ∷ new_names (id ∷ seen) ids) k
    ≡ Some name
    → ((j : ℕ) → slice_get (new_names (id ∷ seen) ids) j ≡ Some name → is_among name ids ≡ true)
    → is_among name (id ∷ ids) ≡ true
new_among_more name id seen ids zero e rest =
    let same : id ≡ name = cc in or_left (bytes_eq name id) (is_among name ids) (rw same (itself name))
new_among_more name id seen ids (suc k) e rest = or_right (bytes_eq name id) (is_among name ids) (rest k e)

pub new_among : (name : List ℕ) (seen names : List (List ℕ)) (k : ℕ) → slice_get (new_names seen names) k ≡ Some name
    → is_among name names ≡ true
new_among name seen [] k e = absurd (let x : ⊥ = cc in x)
new_among name seen (id ∷ ids) k e = elim (cases_Bool (is_among id seen)) [
  | inl t ↦ or_right (bytes_eq name id) (is_among name ids) (new_among name seen ids k (rw t at e))
  | inr f ↦ new_among_more name id seen ids k (rw f at e) (new_among name (id ∷ seen) ids)
]

-- each of the names is there, once
kept_once_more : (name id : List ℕ) (seen ids : List (List ℕ)) (b : Bool) → bytes_eq name id ≡ b
    → (bytes_eq name id ≡ false → 1 ≤ occurs name (new_names (id ∷ seen) ids))
    → 1 ≤ when (bytes_eq name id) 1 + occurs name (new_names (id ∷ seen) ids)
kept_once_more name id seen ids true e rest = rw e (omega arith)
kept_once_more name id seen ids false e rest = rw e (omega (arith, rest e))

pub kept_once : (name : List ℕ) (seen names : List (List ℕ)) → is_among name names ≡ true → is_among name seen ≡ false
    → 1 ≤ occurs name (new_names seen names)
kept_once name seen [] among new = absurd (true≢false (sym among))
kept_once name seen (id ∷ ids) among new = elim (cases_Bool (is_among id seen)) [
  | inl t ↦ (let apart : bytes_eq name id ≡ false =
      other_name name id (λ same. true≢false (sym t ∙ rw (← same) new)) in
      rw t (kept_once name seen ids (rw apart at among) new))
  | inr f ↦ rw f (kept_once_more name id seen ids (bytes_eq name id) refl
      (λ e. kept_once name (id ∷ seen) ids (rw e at among) (or_from (bytes_eq name id) (is_among name seen) e new)))
]

-- there are no more new names than names
pub fewer_names : (seen names : List (List ℕ)) → length (new_names seen names) ≤ length names
fewer_names seen [] = omega arith
fewer_names seen (id ∷ ids) = elim (cases_Bool (is_among id seen)) [
  | inl t ↦ rw t (omega (arith, fewer_names seen ids))
  | inr f ↦ rw f (omega (arith, fewer_names (id ∷ seen) ids))
]

-- a name that occurs has a number
place_inside : (name : List ℕ) (ids : List (List ℕ)) → 1 ≤ occurs name ids
    → position_or_len (bytes_eq name) ids < length ids
place_inside name [] some = absurd (omega arith)
place_inside name (id ∷ ids) some = elim (cases_Bool (bytes_eq name id)) [
  | inl t ↦ rw t (omega arith)
  | inr f ↦ (let here : when (bytes_eq name id) 1 ≡ 0 = rw f refl in
      let rest = place_inside name ids (omega (arith, here, some)) in rw f (omega (arith, rest)))
]

pub has_number : (name : List ℕ) (ids : List (List ℕ)) → 1 ≤ occurs name ids → number_in ids name ≡ None → ⊥
has_number name ids some none =
    let inside = lt-ltb _ _ (place_inside name ids some) in
    let there : number_in ids name ≡ Some (position_or_len (bytes_eq name) ids) = cond-true _ _ _ inside in
    let x : ⊥ = cc in x

-- ---- sums

abbrev pub total : {X : Type 0} → (X → ℕ) → List X → ℕ
total f [] = 0
total f (x ∷ xs) = f x + total f xs

pub total_is : {X : Type 0} (f : X → ℕ) (xs : List X) → sum_by f xs ≡ total f xs
total_is f [] = refl
total_is f (x ∷ xs) = sum_by-cons f x xs ∙ ap (λ n. f x + n) (total_is f xs)

total_none : {X : Type 0} (xs : List X) → total (λ x. 0) xs ≡ 0
total_none [] = refl
total_none (x ∷ xs) = omega (arith, total_none xs)

total_both : {X : Type 0} (g h : X → ℕ) (xs : List X) → total (λ x. g x + h x) xs ≡ total g xs + total h xs
total_both g h [] = refl
total_both g h (x ∷ xs) = omega (arith, total_both g h xs)

-- what is counted at a name
abbrev pub total_at : {X : Type 0} → (X → List ℕ) → (X → ℕ) → List ℕ → List X → ℕ
total_at key f name [] = 0
total_at key f name (x ∷ xs) = when (bytes_eq name (key x)) (f x) + total_at key f name xs

at_one : (name : List ℕ) (n : ℕ) (ids : List (List ℕ)) → total (λ id. when (bytes_eq id name) n) ids ≡ n * occurs name
    ids
at_one name n [] = omega arith
at_one name n (id ∷ ids) = rw (exchanged_names id name) (by (bytes_eq name id) (at_one name n ids))
  where
    by : (b : Bool) → total (λ id. when (bytes_eq id name) n) ids ≡ n * occurs name ids
        → when b n + total (λ id. when (bytes_eq id name) n) ids ≡ n * (when b 1 + occurs name ids)
    by true rest = omega (arith, rest)
    by false rest = omega (arith, rest)

-- the sums at names that occur once aren't more than the whole sum
pub grouped : {X : Type 0} (key : X → List ℕ) (f : X → ℕ) (ids : List (List ℕ)) (xs : List X) → Once ids
    → total (λ id. total_at key f id xs) ids ≤ total f xs
grouped key f ids [] once = omega (arith, total_none ids)
grouped key f ids (x ∷ xs) once =
    let rest = grouped key f ids xs once in
    let apart = total_both (λ id. when (bytes_eq id (key x)) (f x)) (λ id. total_at key f id xs) ids in
    let here = at_one (key x) (f x) ids in
    let few : f x * occurs (key x) ids ≤ f x * 1 = mul-le-mul_left (f x) (once (key x)) in
    omega (arith, rest, apart, here, few)
