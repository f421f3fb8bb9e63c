use Rattle.std.proofs.Common.{◌≡◌, take, IfSome}
use Rattle.hyd_spec_lines.specs.Lines.{LiesIn}
use Rattle.hyd_spec_lines.specs.declared.section.Section.TheVariants.{Options}
use Rattle.hyd_spec_input.specs.SectionsAndTables.{rows_of}
use Rattle.hyd_spec_input.specs.OptionsAndTimesInForce.{begins, last_where}
use Rattle.hyd_rows_and_tables.specs.RowsOfLines.{rows_at, row_in}
use Rattle.hyd_network_rows.proofs.last_lines_of_options.last_option.Given as goal

abbrev pub invariant-loop-place : goal.invariant-loop-place
invariant-loop-place l = record {
  last : row_in l.text.text l.last
      ≡ last_where (begins l.key) (rows_of Options (take l.place (rows_at l.text.text l.lines)));
  lies : IfSome l.last (LiesIn l.text.text);
}
