-- Look-ups in a table of IDs, by the list of the IDs' bytes.
use Rattle.std.proofs.Common.{◌≡◌, ◌+◌, ◌^◌, ◌<◌, ◌≤◌, ◌++◌, ℕ, Bool, true, false, cond, not, ◌||◌, List, [], ◌∷◌, map}
use Rattle.std.proofs.Common.{length, slice_get, position, Option, Some, Contains, refl, sym, ap, ap₂, ◌∙◌, true≢false}
use Rattle.std.proofs.Common.{arith, if◌then◌else◌, length-append, subst, nat_lt, is_some, None, suc}
use Rattle.std.specs.Prelude.{◌↔◌, ◌≢◌}
use Rattle.std.specs.List.{list_any, position_or_len, AllByRecursion, IsDistinct}
use Rattle.std.specs.Str.{bytes_eq}
use Rattle.std.specs.Cmp.Lexicographic.{bytes_decides, nat_list_eq_equiv}
use Rattle.std.proofs.lemmas.List.{length-map, map-append}
use Rattle.std.proofs.lemmas.Option.{slice_get-get_or}
use Rattle.std.proofs.lemmas.List.Quantifiers.{position-Some, all_pairs_push}
use Rattle.std.proofs.lemmas.List.Elements.{Contains-get_or}
use Rattle.std.proofs.lemmas.Map.Keys.{apart_from_distinct}
use Rattle.std.proofs.lemmas.Map.Views.{Contains-from_any, list_any-from_Contains}
use Rattle.hyd_net.specs.Ids.{AreDistinct}

-- ---- the IDs of a list of keys

module _ {K : Type 0} (f : K → List ℕ) where
  position_or_len-map : (t : List ℕ → Bool) (keys : List K) → position_or_len (λ k. t (f k)) keys
      ≡ position_or_len t (map f keys)
  position_or_len-map t [] = refl
  position_or_len-map t (k ∷ ks) = ap (λ n. cond (not (t (f k))) (1 + n) 0) (position_or_len-map t ks)

  pub position-map : (t : List ℕ → Bool) (keys : List K) → position (λ k. t (f k)) keys ≡ position t (map f keys)
  position-map t keys = rw (position_or_len-map t keys, length-map keys f) refl

  pub list_any-map : (t : List ℕ → Bool) (keys : List K) → list_any (λ k. t (f k)) keys ≡ list_any t (map f keys)
  list_any-map t [] = refl
  list_any-map t (k ∷ ks) = ap (λ b. t (f k) || b) (list_any-map t ks)

  apart-map : (id : List ℕ) (keys : List K) → AllByRecursion (λ k. bytes_eq id (f k) ≡ false) keys
      → AllByRecursion (λ other. bytes_eq id other ≡ false) (map f keys)
  apart-map id [] h = h
  apart-map id (k ∷ ks) h = (h.0, apart-map id ks h.1)

  IsDistinct-map : (keys : List K) → IsDistinct (λ k l. bytes_eq (f k) (f l)) keys → IsDistinct bytes_eq (map f keys)
  unfolding IsDistinct
  IsDistinct-map [] h = h
  IsDistinct-map (k ∷ ks) h = (apart-map (f k) ks h.0, IsDistinct-map ks h.1)

  -- keys without two equal ones have distinct IDs
  pub AreDistinct-map : (keys : List K) → IsDistinct (λ k l. bytes_eq (f k) (f l)) keys → AreDistinct (map f keys)
  AreDistinct-map keys h i j d lt within same =
      true≢false (sym ((bytes_decides _ _).1 same) ∙ apart_from_distinct bytes_eq (map f keys) i j d
      (IsDistinct-map keys h) lt within)

-- ---- an ID in a list of IDs

pub Contains-from_found : (id : List ℕ) (ids : List (List ℕ)) → list_any (bytes_eq id) ids ≡ true → Contains ids id
Contains-from_found id ids h = Contains-from_any (λ x y. (bytes_decides x y).0) id ids h

pub found-from_Contains : (id : List ℕ) (ids : List (List ℕ)) → Contains ids id → list_any (bytes_eq id) ids ≡ true
found-from_Contains id ids h = list_any-from_Contains nat_list_eq_equiv id ids h

-- the ID at the position that is found is the one that was looked for
pub place_of_id : (id : List ℕ) (ids : List (List ℕ)) (n : ℕ) → position (bytes_eq id) ids ≡ Some n
    → slice_get ids n ≡ Some id
place_of_id id ids n h =
    let found = position-Some (bytes_eq id) ids n [] h in
    slice_get-get_or ids n [] found.0 ∙ ap Some (sym ((bytes_decides _ _).0 found.1))

-- ---- what a look-up among the keys says of their IDs

module _ {X : Type 0} (test : X → Bool) where
  some_iff : (b : Bool) (n : ℕ) → is_some (if b then Some n else None) ≡ b
  some_iff true n = refl
  some_iff false n = refl

  step : (b : Bool) (place count : ℕ) (rest : Bool) → nat_lt place count ≡ rest
      → nat_lt (cond (not b) (1 + place) 0) (suc count) ≡ (b || rest)
  step true place count rest h = grind arith
  step false place count rest h = sym (sym h ∙ grind arith)

  first_within : (items : List X) → nat_lt (position_or_len test items) (length items) ≡ list_any test items
  first_within [] = refl
  first_within (x ∷ xs) = step (test x) (position_or_len test xs) (length xs) (list_any test xs) (first_within xs)

  -- a first place is found exactly where an item passes
  pub found_is : (items : List X) → is_some (position test items) ≡ list_any test items
  found_is items = some_iff _ _ ∙ first_within items

module _ {K : Type 0} (f : K → List ℕ) (keys seen : List K) (ids : List (List ℕ)) (seen_is : seen ≡ keys)
    (view_is : map f keys ≡ ids) (id : List ℕ) where
  pub number_is : (r : Option ℕ) → r ≡ position (λ k. bytes_eq id (f k)) seen → r ≡ position (bytes_eq id) ids
  number_is r h = h ∙ ap (position (λ k. bytes_eq id (f k))) seen_is ∙ position-map f (bytes_eq id) keys
      ∙ ap (position (bytes_eq id)) view_is

-- a number is found exactly where the ID is there
pub found_iff : (id : List ℕ) (ids : List (List ℕ)) (r : Option ℕ) → r ≡ position (bytes_eq id) ids
    → (is_some r ≡ true) ↔ Contains ids id
found_iff id ids r h =
    let any : is_some r ≡ list_any (bytes_eq id) ids = ap is_some h ∙ found_is (bytes_eq id) ids in
    (λ t. Contains-from_found id ids (sym any ∙ t), λ m. any ∙ found-from_Contains id ids m)

-- the IDs after a key is put last
module _ {K : Type 0} (f : K → List ℕ) (keys : List K) (ids : List (List ℕ)) (view_is : map f keys ≡ ids)
    (owned : K) (id : List ℕ) (is : f owned ≡ id) (new : List K) (e : new ≡ keys ++ owned ∷ []) where
  pub names_after_push : map f new ≡ ids ++ id ∷ []
  names_after_push = ap (map f) e ∙ map-append f keys (owned ∷ []) ∙ ap₂ (λ xs i. xs ++ i ∷ []) view_is is

  -- they stay distinct where the ID wasn't there
  pub distinct_after_push : AreDistinct ids → ¬ Contains ids id → AreDistinct (map f new)
  distinct_after_push h absent =
      rw names_after_push (all_pairs_push (λ (first later : List ℕ). first ≢ later) ids id h (λ k d within same.
      absent (subst (Contains ids) same (Contains-get_or ids k d within))))

-- one more ID keeps the table small enough
pub few_after_push : (ids new : List (List ℕ)) (id : List ℕ) → length ids < 2 ^ 31 → new ≡ ids ++ id ∷ []
    → length new ≤ 2 ^ 31
few_after_push ids new id h e = rw e (omega (arith, length-append ids (id ∷ []), h))
