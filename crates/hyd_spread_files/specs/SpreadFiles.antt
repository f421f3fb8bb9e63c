-- What the file of a spread holds.
-- Source: this program's.
use Rattle.std.specs.Prelude.{◌≡◌, ◌<◌, ◌≤◌, ◌^◌, ℕ, List, length, true, false}
use Rattle.hyd_spread_rows.specs.TextsWithoutRows.{has_rows}
use Rattle.hyd_spread_files.specs.declared.spread_file.SpreadFile.{SpreadFile}
use Rattle.hyd_spread_files.specs.declared.spread_file.SpreadFile.TheVariants.{Rows, NoRows, TooLong}

-- A text is that of no spread: it can be read, and has no rows.
pub record IsNoSpread (text : List ℕ) : Type 0 where
  pub short : length text ≤ 2 ^ 26
  pub rows : has_rows text ≡ false

-- What was found is this text.
abbrev pub IsText : List ℕ → SpreadFile → Type 0
IsText text (Rows bytes) = (bytes.items ≡ text) × (has_rows text ≡ true)
IsText text NoRows = IsNoSpread text
IsText text TooLong = 2 ^ 26 < length text
