use Rattle.hyd_rows_and_tables.specs.RowsOfLines.{rows_at}
use Rattle.hyd_build_nodes_patterns_and_options.specs.DemandsAndEmitters.{AreDemands, each}
use Rattle.hyd_build_nodes_patterns_and_options.proofs.demands.gather_demands.Given as goal

abbrev pub invariant-loop-place : goal.invariant-loop-place
invariant-loop-place l = AreDemands (rows_at l.text.text l.lines) l.place l.nodes.names (each l.lists.items)
