-- The ends that rows give to all nodes, node by node.
use Rattle.std.proofs.Common.{◌≡◌, ℕ, zero, suc, ◌+◌, ◌<◌, refl, sym, ap}
use Rattle.std.proofs.Common.{subst, ◌∙◌, arith, Bool, true, false, List, [], ◌∷◌, ◌++◌}
use Rattle.std.proofs.Common.{length, take, get_or, get_or-take, length-take}
use Rattle.std.specs.Prelude.{Option, Some, None, slice_get, slice_index_or, Contains, ◌↔◌}
use Rattle.std.specs.Prelude.{if◌then◌else◌}
use Rattle.hyd_lemmas.proofs.ListsOptionsAndResults.{same_item}
use Rattle.std.specs.Option.{option_map}
use Rattle.std.proofs.lemmas.Option.{get_or_from_slice_get}
use Rattle.hyd_net.specs.Ids.{AreDistinct}
use Rattle.hyd_spec.specs.ProgramTypes.{Project}
use Rattle.hyd_spec.specs.Lists.{map_from}
use Rattle.hyd_spec_lines.specs.Headings.{either}
use Rattle.hyd_spec_spread_rows.specs.declared.Subject.{Subject}
use Rattle.hyd_spec_spread_rows.specs.declared.Ends.{Ends}
use Rattle.hyd_spec_spread_rows.specs.RowsOfSpreads.{ends_of}
use Rattle.hyd_spec_spread_rows.specs.TextsOfSpreads.{last_of, names, names_all, ends_or, ends_for}
use Rattle.hyd_spread_rows.specs.RowsSaid.{IsSaid, ends_at}
use Rattle.hyd_spread_rows.specs.declared.said.Said.{Said}

-- ---- an ID behind others

pub new-id : (ids : List (List ℕ)) (n : ℕ) (id : List ℕ) → AreDistinct ids → n < length ids
    → slice_get ids n ≡ Some id → Contains (take n ids) id → ⊥
new-id ids n id distinct lt at there =
    let k = there.0 in
    let within : k < n = (let w = there.1 in omega (arith, w, length-take n ids)) in
    let first : get_or ids k id ≡ id = sym (get_or-take n ids k id within) ∙ there.2 in
    distinct k n id within lt (first ∙ sym (get_or_from_slice_get ids n id id at))

take-next : (xs : List (List ℕ)) (n : ℕ) (x : List ℕ) → slice_get xs n ≡ Some x
    → take (suc n) xs ≡ take n xs ++ x ∷ []
take-next [] n x at = absurd (cc)
take-next (y ∷ xs) zero x at = ap (λ z. z ∷ []) (same_item (List ℕ) y x at)
take-next (y ∷ xs) (suc n) x at = ap (λ zs. y ∷ zs) (take-next xs n x at)

pub id-more : (ids : List (List ℕ)) (n : ℕ) (id : List ℕ) (old new : List (List ℕ)) (added : Bool) → AreDistinct ids
    → n < length ids → slice_get ids n ≡ Some id → old ≡ take n ids → ((added ≡ false) ↔ Contains old id)
    → new ≡ (if added then old ++ id ∷ [] else old) → new ≡ take (n + 1) ids
id-more ids n id old new true distinct lt at before present is =
    is ∙ ap (λ xs. xs ++ id ∷ []) before ∙ sym (take-next ids n id at)
    ∙ ap (λ k. take k ids) (let e : suc n ≡ n + 1 = omega arith in e)
id-more ids n id old new false distinct lt at before present is =
    absurd (new-id ids n id distinct lt at (subst (λ xs. Contains xs id) before (present.0 refl)))

-- ---- ends

either-mapped : {X Y : Type 0} (f : X → Y) (a b : Option X)
    → either (option_map f a) (option_map f b) ≡ option_map f (either a b)
either-mapped f None b = refl
either-mapped f (Some x) b = refl

pub at-node : (project : Project) (subject : Subject) (rows : List (List (List ℕ))) (said : Said) (own : Ends)
    (node : ℕ)
    → IsSaid project subject rows said → node < length project.node_ids
    → ends_at said own node ≡ ends_for project subject rows own node
at-node project subject rows said own node is lt =
    (λ i. ends_or own (either (is.named node lt i) (is.all i)))
    ∙ ap (ends_or own) (either-mapped (ends_of project subject)
    (last_of (names subject (slice_index_or project.node_ids node [])) rows) (last_of (names_all subject) rows))

-- a list by its items
pub item-by-item : {X : Type 0} (f : ℕ → X → Ends) (from : ℕ) (xs : List X) (ys : List Ends) (d : Ends)
    → length ys ≡ length xs
    → ((k : ℕ) (x : X) → slice_get xs k ≡ Some x → slice_index_or ys k d ≡ f (from + k) x) → ys ≡ map_from f from xs
item-by-item f from [] [] d same each = refl
item-by-item f from [] (y ∷ ys) d same each = absurd (omega (arith, same))
item-by-item f from (x ∷ xs) [] d same each = absurd (omega (arith, same))
item-by-item f from (x ∷ xs) (y ∷ ys) d same each =
    let n : from + 0 ≡ from = omega arith in
    let here : y ≡ f from x = subst (λ m. y ≡ f m x) n (each 0 x refl) in
    let rest = item-by-item f (suc from) xs ys d (omega (arith, same)) (λ k z at.
    let m : from + suc k ≡ suc from + k = omega arith in
    subst (λ p. slice_index_or ys k d ≡ f p z) m (each (suc k) z at)) in
    λ i. here i ∷ rest i
