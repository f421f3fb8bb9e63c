-- Words on lists that several definitions share.
use Rattle.std.specs.Prelude.{◌≡◌, ℕ, suc, List, [], ◌∷◌, ◌++◌, Option, Some, None, slice_get, ℤ, pos, ◌+ℤ◌}

-- P holds of each item of a list, with its number, counted from 0.
abbrev pub Each : {X : Type 0} → List X → (ℕ → X → Type 0) → Type 0
Each {X} xs P = (k : ℕ) (x : X) → slice_get xs k ≡ Some x → P k x

-- f of each item with its number, counted from k.
abbrev pub map_from : {X Y : Type 0} → (ℕ → X → Y) → ℕ → List X → List Y
map_from f k [] = []
map_from f k (x ∷ xs) = f k x ∷ map_from f (suc k) xs

-- One list after another.
abbrev pub joined : {X : Type 0} → List (List X) → List X
joined [] = []
joined (xs ∷ rest) = xs ++ joined rest

-- What is there, of a list of what may be there.
abbrev pub present : {X : Type 0} → List (Option X) → List X
present [] = []
present (Some x ∷ rest) = x ∷ present rest
present (None ∷ rest) = present rest

-- A list or a text goes on with some more, or with nothing, to make the whole one.
abbrev pub IsFrontOf : {X : Type 0} → List X → List X → Type 0
IsFrontOf {X} front whole = (rest : List X) × (front ++ rest ≡ whole)

-- The sum of a list.
abbrev pub total : List ℤ → ℤ
total [] = pos 0
total (x ∷ rest) = x +ℤ total rest
