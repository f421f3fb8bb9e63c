use Rattle.std.proofs.Common.{◌≡◌, ◌≤◌, ◌++◌, map, length, take}
use Rattle.hyd_spec_input.specs.SectionsAndTables.{rows_of, own_id}
use Rattle.hyd_rows_and_tables.specs.RowsOfLines.{rows_at}
use Rattle.hyd_inp.proofs.ids_in_order.count_behind.Given as goal

abbrev pub invariant-loop-line : goal.invariant-loop-line
invariant-loop-line l = record {
  within : l.to ≤ length l.names;
  ids : take l.to l.names ≡ take l.from l.names
      ++ map own_id (rows_of l.section (take l.line-index (rows_at l.text.text l.lines)));
}
