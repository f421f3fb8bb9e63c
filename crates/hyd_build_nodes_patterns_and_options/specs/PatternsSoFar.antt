-- The multipliers of patterns, as far as rows were read.
use Rattle.std.specs.Prelude.{◌≡◌, ℕ, ◌==◌, List, [], ◌∷◌, ◌++◌, map, length, take, if◌then◌else◌, ℤ}
use Rattle.std.specs.List.{flat_map}
use Rattle.hyd_spec_lines.specs.Lines.{Row}
use Rattle.hyd_spec_lines.specs.declared.section.Section.TheVariants.{Patterns}
use Rattle.hyd_net.specs.declared.patterns.Pattern.{Pattern}
use Rattle.hyd_spec_input.specs.SectionsAndTables.{own_id, rows_of, rows_with, row_multipliers}
use Rattle.hyd_spec_input.specs.MeaningsAcrossRows.{new_names}

-- the multipliers of each pattern
abbrev pub each : List Pattern → List (List ℤ)
each patterns = map (λ (p : Pattern). p.multipliers.list) patterns

-- the IDs of rows, each where a row first has it
abbrev pub ids_of : List Row → List (List ℕ)
ids_of rows = new_names [] (map own_id rows)

-- the multipliers that rows give a pattern
abbrev pub given : List Row → List ℕ → List ℤ
given rows name = flat_map row_multipliers (rows_with name rows)

-- the patterns that rows name, each with its multipliers in them
abbrev pub all_given : List Row → List (List ℤ)
all_given rows = map (given rows) (ids_of rows)

abbrev pub AreFilled : List Row → ℕ → List Pattern → Type 0
AreFilled rows k patterns = each patterns ≡ all_given (rows_of Patterns (take k rows))

-- an empty pattern more, where it has the next number
abbrev pub opened : ℕ → List (List ℤ) → List (List ℤ)
opened number lists = if number == length lists then lists ++ [] ∷ [] else lists
