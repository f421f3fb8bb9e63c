use Rattle.hyd_rows_and_tables.specs.RowsOfLines.{rows_at}
use Rattle.hyd_build_nodes_patterns_and_options.specs.PatternsSoFar.{AreFilled}
use Rattle.hyd_build_nodes_patterns_and_options.proofs.patterns.build_patterns.Given as goal

abbrev pub invariant-loop-place : goal.invariant-loop-place
invariant-loop-place l = AreFilled (rows_at l.text.text l.lines) l.place l.patterns.items
