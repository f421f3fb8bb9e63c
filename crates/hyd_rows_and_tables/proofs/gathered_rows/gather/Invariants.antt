use Rattle.std.proofs.Common.{◌≡◌, ◌++◌, ◌+◌, ◌≤◌, length}
use Rattle.std.specs.List.{All}
use Rattle.hyd_spec_lines.specs.Lines.{LiesIn, items_of, rows_in, fault_in}
use Rattle.hyd_rows_and_tables.specs.RowsOfLines.{rows_at}
use Rattle.hyd_rows_and_tables.proofs.gathered_rows.gather.Given as goal

abbrev pub invariant-loop-item : goal.invariant-loop-item
invariant-loop-item l = record {
  text : l.reader.text ≡ l.fn.text;
  rows : rows_at l.fn.text l.lines.items ++ rows_in l.reader.rest ≡ rows_in (items_of l.fn.text);
  fault : fault_in l.reader.rest ≡ fault_in (items_of l.fn.text);
  few : length l.lines.items + length l.reader.rest ≤ length l.fn.text;
  lie : All (LiesIn l.fn.text) l.lines.items;
}

abbrev pub decreases-loop-item : goal.decreases-loop-item
decreases-loop-item l = length l.reader.rest
