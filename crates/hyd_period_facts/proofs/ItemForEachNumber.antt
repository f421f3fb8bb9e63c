-- Lists of one item for each item of another, with its number.
use Rattle.std.proofs.Common.{◌≡◌, ℕ, zero, suc, ◌+◌, ◌<◌, ◌≤◌, List, [], ◌∷◌, ◌++◌, length, take, ap, sym, ◌∙◌}
use Rattle.std.proofs.Common.{arith}
use Rattle.std.specs.Prelude.{Some, map, slice_get, slice_index_or}
use Rattle.std.proofs.lemmas.List.{take_more, take_all, map_push}
use Rattle.hyd_spec.specs.Lists.{map_from}
use Rattle.hyd_lemmas.proofs.ListsOptionsAndResults.{item_is, item_there, as_long}

-- an item of it
pub placed : {X Y : Type 0} (f : ℕ → X → Y) (from k : ℕ) (xs : List X) (d : Y) (e : X) → k < length xs
    → slice_index_or (map_from f from xs) k d ≡ f (from + k) (slice_index_or xs k e)
placed {X} {Y} f from k [] d e h = absurd (omega (arith, h))
placed {X} {Y} f from zero (x ∷ xs) d e h = ap (λ (n : ℕ). f n x) (omega arith)
placed {X} {Y} f from (suc k) (x ∷ xs) d e h =
    placed f (suc from) k xs d e (omega (arith, h))
    ∙ ap (λ (n : ℕ). f n (slice_index_or xs k e)) (omega arith)

pub placed_first : {X Y : Type 0} (f : ℕ → X → Y) (k : ℕ) (xs : List X) (d : Y) (e : X) → k < length xs
    → slice_index_or (map_from f 0 xs) k d ≡ f k (slice_index_or xs k e)
placed_first {X} {Y} f k xs d e h =
    placed f 0 k xs d e h ∙ ap (λ (n : ℕ). f n (slice_index_or xs k e)) (let same : 0 + k ≡ k = omega arith in same)

-- one item more of a list that is written from the front
pub one_more : {X Y Z : Type 0} (view : Z → Y) (f : ℕ → X → Y) (xs : List X) (list : List Z) (item : Z) (i : ℕ)
    → i < length xs → map view list ≡ take i (map_from f 0 xs)
    → ((x : X) → slice_get xs i ≡ Some x → view item ≡ f i x)
    → map view (list ++ item ∷ []) ≡ take (i + 1) (map_from f 0 xs)
one_more {X} {Y} {Z} view f xs list item i h before here =
    let there = item_there xs i h in
    let size = as_long f 0 xs in
    let next = take_more (map_from f 0 xs) i (view item) (omega (arith, size, h)) in
    let at : slice_index_or (map_from f 0 xs) i (view item) ≡ f i there.0 =
    placed_first f i xs (view item) there.0 h ∙ ap (λ (y : X). f i y) (item_is xs i there.0 there.0 there.1) in
    map_push view list item
    ∙ ap (λ (ys : List Y). ys ++ view item ∷ []) before
    ∙ ap (λ (y : Y). take i (map_from f 0 xs) ++ y ∷ []) (here there.0 there.1 ∙ sym at)
    ∙ sym next

-- all of it
pub all_there : {X Y : Type 0} (f : ℕ → X → Y) (xs : List X) (ys : List Y) (i : ℕ) → length xs ≤ i
    → ys ≡ take i (map_from f 0 xs) → ys ≡ map_from f 0 xs
all_there {X} {Y} f xs ys i h is = is ∙ take_all i (map_from f 0 xs) (let size = as_long f 0 xs in omega
    (arith, size, h))
