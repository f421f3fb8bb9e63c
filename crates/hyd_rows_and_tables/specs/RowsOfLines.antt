-- The rows of a text by their lines.
use Rattle.std.specs.Prelude.{ℕ, List, Option, map}
use Rattle.std.specs.Option.{option_map}
use Rattle.hyd_spec_lines.specs.Lines.{Row, row_of}
use Rattle.hyd_spec_lines.specs.declared.line.Line.{Line}

-- the rows that lines of a text stand for
abbrev pub rows_at : List ℕ → List Line → List Row
rows_at text lines = map (row_of text) lines

-- the row of a line that may be there
abbrev pub row_in : List ℕ → Option Line → Option Row
row_in text line = option_map (row_of text) line
