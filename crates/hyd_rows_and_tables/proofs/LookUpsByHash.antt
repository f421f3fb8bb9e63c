-- Look-ups by hash, by the list of the IDs' bytes.
use Rattle.std.proofs.Common.{◌≡◌, ◌++◌, ℕ, Bool, true, false, List, [], ◌∷◌, map, position, Option, Contains, sym}
use Rattle.std.proofs.Common.{ap, ap₂, ◌∙◌, true≢false, if◌then◌else◌}
use Rattle.std.specs.Prelude.{◌↔◌}
use Rattle.std.specs.List.{list_any}
use Rattle.std.specs.Str.{bytes_eq}
use Rattle.std.proofs.lemmas.List.{map-append}
use Rattle.hyd_net.proofs.IdLemmas.{position-map, list_any-map, Contains-from_found, found-from_Contains}

module _ {K : Type 0} (f : K → List ℕ) (keys : List K) (ids : List (List ℕ)) (view_is : map f keys ≡ ids)
    (id : List ℕ) where
  pub number_is : (r : Option ℕ) → r ≡ position (λ k. bytes_eq id (f k)) keys → r ≡ position (bytes_eq id) ids
  number_is r h = h ∙ position-map f (bytes_eq id) keys ∙ ap (position (bytes_eq id)) view_is

  any_is : (b : Bool) → b ≡ list_any (λ k. bytes_eq id (f k)) keys → list_any (bytes_eq id) ids ≡ b
  any_is b h = sym (h ∙ list_any-map f (bytes_eq id) keys ∙ ap (list_any (bytes_eq id)) view_is)

  -- the look-up finds a key exactly where the ID is there
  pub found_iff : (b : Bool) → b ≡ list_any (λ k. bytes_eq id (f k)) keys → (b ≡ true) ↔ Contains ids id
  found_iff b h = (
    λ t. Contains-from_found id ids (any_is b h ∙ t),
    λ m. sym (any_is b h) ∙ found-from_Contains id
        ids m,
  )

  -- it finds none only where the ID isn't there
  pub absent_from : list_any (λ k. bytes_eq id (f k)) keys ≡ false → ¬ Contains ids id
  absent_from h m = true≢false (sym ((found_iff false (sym h)).1 m))

  -- the IDs after a key with a new ID is put last
  pub map-insert_key : (owned : K) (new : List K) → f owned ≡ id → list_any (λ k. bytes_eq id (f k)) keys ≡ false
      → new ≡ (if list_any (λ k. bytes_eq (f owned) (f k)) keys then keys else keys ++ owned ∷ [])
      → map f new ≡ ids ++ id ∷ []
  map-insert_key owned new is absent e =
      let last : new ≡ keys ++ owned ∷ [] = e ∙ ap (λ i. if list_any (λ k. bytes_eq i (f k)) keys then keys else keys
      ++ owned ∷ []) is ∙ ap (λ b. if b then keys else keys ++ owned ∷ []) absent in
      ap (map f) last ∙ map-append f keys (owned ∷ []) ∙ ap₂ (λ xs i. xs ++ i ∷ []) view_is is
