-- The least and the greatest of numbers.
use Rattle.std.specs.Prelude.{◌≡◌, ℕ, Bool, true, ◌&&◌, List, [], ◌∷◌, length, take, Option, Some, None, if◌then◌else◌}
use Rattle.std.specs.Prelude.{slice_index_or, ℤ, ◌≤ℤ◌, Contains}
use Rattle.std.specs.List.{All}
use Rattle.std.specs.Option.{option_map}
use lib.Signed.{le_z, lt_z}
use Rattle.hyd_spec_lines.specs.Lines.{Row}
use Rattle.hyd_spec_input.specs.MeaningsAcrossRows.{number_in}
use Rattle.hyd_spec_input.specs.SectionsAndTables.{pattern_named}
use Rattle.hyd_judge_nodes_curves_and_options.specs.declared.pattern_extremes.Extremes.{Extremes}

-- two numbers, in billionths
pub record Bounds : Type 0 where
  pub least : ℤ
  pub greatest : ℤ

abbrev pub bounds : Option Extremes → Option Bounds
bounds extremes = option_map (λ (e : Extremes). record { least = e.least.nano; greatest = e.greatest.nano }) extremes

-- they are the least and the greatest of these
pub record Enclose (values : List ℤ) (b : Bounds) : Type 0 where
  pub least_is_there : Contains values b.least
  pub greatest_is_there : Contains values b.greatest
  pub at_least : All (λ v. b.least ≤ℤ v) values
  pub at_most : All (λ v. v ≤ℤ b.greatest) values

-- where there are any
abbrev pub AreExtremes : List ℤ → Option Bounds → Type 0
AreExtremes values None = values ≡ []
AreExtremes values (Some b) = Enclose values b

-- a test passes at both ends
abbrev pub pass : (ℤ → Bool) → Option Bounds → Bool
pass test None = true
pass test (Some b) = test b.least && test b.greatest

-- a number lies from one to another, both included
abbrev pub is_between : ℤ → ℤ → ℤ → Bool
is_between low high z = le_z low z && le_z z high

-- ---- one number after another

abbrev pub widened : Option Bounds → ℤ → Option Bounds
widened None n = Some (record { least = n; greatest = n })
widened (Some b) n =
    if lt_z n b.least then Some (record { least = n; greatest = b.greatest })
    else (if lt_z b.greatest n then Some (record { least = b.least; greatest = n }) else Some b)

abbrev pub all_widened : Option Bounds → List ℤ → Option Bounds
all_widened b [] = b
all_widened b (n ∷ ns) = all_widened (widened b n) ns

-- the bounds of a number that a name may have
abbrev pub bounds_of : List (Option Extremes) → Option ℕ → Option Bounds
bounds_of each None = None
bounds_of each (Some number) = bounds (slice_index_or each number None)

-- for each name, the bounds of its number are made of the pattern's multipliers in the first rows
pub record AreWidened (rows : List Row) (k : ℕ) (names : List (List ℕ)) (each : List (Option Extremes)) : Type 0 where
  pub even : length each ≡ length names
  pub named : (name : List ℕ) → bounds_of each (number_in names name)
      ≡ all_widened None (pattern_named (take k rows) name)
