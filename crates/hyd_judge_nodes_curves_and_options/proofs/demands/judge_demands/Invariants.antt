use Rattle.hyd_rows_and_tables.specs.RowsOfLines.{rows_at}
use Rattle.hyd_judge_nodes_curves_and_options.specs.Demands.{AreDemands}
use Rattle.hyd_judge_nodes_curves_and_options.proofs.demands.judge_demands.Given as goal

abbrev pub invariant-loop-place : goal.invariant-loop-place
invariant-loop-place l = AreDemands (rows_at l.text.text l.lines) l.place l.demands
