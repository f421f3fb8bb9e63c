-- Texts without rows. Lines and words are those of an input file: what is blank or a comment is no row.
use Rattle.std.specs.Prelude.{ℕ, Bool, true, false, List, [], ◌∷◌}
use Rattle.std.specs.List.{list_any}
use Rattle.hyd_spec_lines.specs.WordsOfLines.{text_lines}
use Rattle.hyd_spec_spread_rows.specs.TextsOfSpreads.{rows_of}

-- there are words
abbrev pub has_words : List (List ℕ) → Bool
has_words [] = false
has_words (word ∷ words) = true

-- a line of the text has a word
abbrev pub has_rows : List ℕ → Bool
has_rows text = list_any has_words (rows_of (text_lines text))
