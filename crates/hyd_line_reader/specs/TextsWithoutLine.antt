-- Texts in which a byte doesn't stand, and texts that no line begins.
use Rattle.std.specs.Prelude.{◌≢◌, ℕ, ◌<◌, List, ◌∷◌, ◌++◌, length, Option, Some}
use Rattle.std.specs.List.{AllByRecursion}

-- The byte doesn't stand in the text.
abbrev pub HasNo : ℕ → List ℕ → Type 0
HasNo byte text = AllByRecursion (λ c. c ≢ byte) text

-- No line of at most 64 bytes, its line feed among them, begins a text that is told.
abbrev pub HasNoLine : Option (List ℕ) → Type 0
HasNoLine text = (line rest : List ℕ) → HasNo 10 line → length line < 64 → text ≢ Some (line ++ (10 ∷ rest))
