use Rattle.std.proofs.Common.{◌≡◌, ◌+◌, ◌≤◌, ◌++◌, map, length, take}
use Rattle.hyd_spec_input.specs.MeaningsAcrossRows.{new_names}
use Rattle.hyd_spec_input.specs.SectionsAndTables.{rows_of, own_id}
use Rattle.hyd_rows_and_tables.specs.RowsOfLines.{rows_at}
use Rattle.hyd_build_nodes_patterns_and_options.proofs.ids.add_section.Given as goal

abbrev pub invariant-loop-line : goal.invariant-loop-line
invariant-loop-line l = record {
  names : l.names ≡ l.initial.names
      ++ new_names l.initial.names
      (map own_id (rows_of l.section (take l.line-index (rows_at l.text.text l.lines))));
  few : length l.names ≤ length l.initial.names + l.line-index;
}
