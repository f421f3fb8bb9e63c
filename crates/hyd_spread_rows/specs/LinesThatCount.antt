-- The lines of the rows about a subject that were read.
use Rattle.std.specs.Prelude.{◌≡◌, ℕ, suc, ◌≤◌, List, ◌++◌, length, drop}
use Rattle.std.specs.Option.{option_map}
use Rattle.hyd_spec_lines.specs.WordsOfLines.{text_lines}
use Rattle.hyd_spec_spread_rows.specs.declared.Subject.{Subject}
use Rattle.hyd_spec_spread_rows.specs.TextsOfSpreads.{rows_of, names, names_all}
use Rattle.hyd_spec_spread_starts.specs.StartsOfSpreads.{last_place}
use Rattle.hyd_spread_rows.specs.declared.lines_that_count.LastLines.{LastLines}

-- the lines, counted from 1, of the last row about a subject that names a node by its ID, and of the last one for all
pub record AreLast (subject : Subject) (id : List ℕ) (rows : List (List (List ℕ))) (last : LastLines) : Type 0 where
  pub named : last.named ≡ option_map (λ place. suc place) (last_place (names subject id) rows)
  pub all : last.all ≡ option_map (λ place. suc place) (last_place (names_all subject) rows)

-- so many lines were read of a text, up to a place
pub record HasHeard (subject : Subject) (id text : List ℕ) (at number : ℕ) (last : LastLines) : Type 0 where
  pub within : at ≤ length text
  pub few : number ≤ at
  pub before : List (List ℕ)
  pub count : length before ≡ number
  pub lines : text_lines text ≡ before ++ text_lines (drop at text)
  pub are_last : AreLast subject id (rows_of before) last
