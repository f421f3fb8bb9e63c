use Rattle.hyd_rows_and_tables.specs.RowsOfLines.{rows_at}
use Rattle.hyd_judge_nodes_curves_and_options.specs.Extremes.{AreWidened}
use Rattle.hyd_judge_nodes_curves_and_options.proofs.pattern_extremes.gather_extremes.Given as goal

abbrev pub invariant-loop-place : goal.invariant-loop-place
invariant-loop-place l = AreWidened (rows_at l.text.text l.lines) l.place l.patterns.names l.each.items
