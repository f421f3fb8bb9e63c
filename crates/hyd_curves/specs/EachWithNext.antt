-- Items that pass, each one with the next.
use Rattle.std.specs.Prelude.{Bool, true, ◌&&◌, List, [], ◌∷◌}
use Rattle.std.specs.List.{list_all}
use Rattle.hyd_spec_input.specs.Curves.{in_turn}

-- an item passes with the first of those behind it, where there is one
abbrev pub goes_on : {A : Type 0} → (A → A → Bool) → A → List A → Bool
goes_on test a [] = true
goes_on test a (b ∷ items) = test a b

-- each item passes, and each with the next
abbrev pub all_in_turn : {A : Type 0} → (A → Bool) → (A → A → Bool) → List A → Bool
all_in_turn passes test items = list_all passes items && in_turn test items
