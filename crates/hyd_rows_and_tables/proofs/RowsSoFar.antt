-- The rows of a text as far as they were gathered.
use Rattle.std.proofs.Common.{◌≡◌, ℕ, List, [], ◌∷◌, ◌++◌, Ok, ap, ◌∙◌}
use Rattle.std.specs.Prelude.{Result}
use Rattle.std.proofs.lemmas.List.{map-append, append_assoc}
use Rattle.hyd_spec_lines.specs.Lines.{Row, row_of, rows_in}
use Rattle.hyd_spec_lines.specs.declared.line.Line.{Line}
use Rattle.hyd_spec_lines.specs.declared.fault.LexFault.{LexFault}
use Rattle.hyd_rows_and_tables.specs.RowsOfLines.{rows_at}

-- one more line was gathered, and what is left no longer begins with its row
pub one_more : (text : List ℕ) (lines : List Line) (line : Line) (after : List (Result Row LexFault)) (all : List Row)
    → rows_at text lines ++ rows_in (Ok (row_of text line) ∷ after) ≡ all
    → rows_at text (lines ++ line ∷ []) ++ rows_in after ≡ all
one_more text lines line after all known =
    ap (λ rows. rows ++ rows_in after) (map-append (row_of text) lines (line ∷ []))
    ∙ append_assoc (rows_at text lines) (row_of text line ∷ []) (rows_in after) ∙ known
