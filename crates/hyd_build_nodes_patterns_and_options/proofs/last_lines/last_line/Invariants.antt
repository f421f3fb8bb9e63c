use Rattle.std.proofs.Common.{◌≡◌, take, IfSome}
use Rattle.hyd_spec_lines.specs.WordsOfLines.{text_of}
use Rattle.hyd_spec_lines.specs.Lines.{LiesIn}
use Rattle.hyd_spec_input.specs.SectionsAndTables.{rows_of}
use Rattle.hyd_spec_input.specs.OptionsAndTimesInForce.{last_where}
use Rattle.hyd_rows_and_tables.specs.RowsOfLines.{rows_at, row_in}
use Rattle.hyd_build_nodes_patterns_and_options.specs.LinesInForce.{begins_with}
use Rattle.hyd_build_nodes_patterns_and_options.proofs.last_lines.last_line.Given as goal

abbrev pub invariant-loop-line : goal.invariant-loop-line
invariant-loop-line l = record {
  last : row_in l.text.text l.last
      ≡ last_where (begins_with l.key (text_of l.second))
      (rows_of l.section (take l.line-index (rows_at l.text.text l.lines)));
  lies : IfSome l.last (LiesIn l.text.text);
}
