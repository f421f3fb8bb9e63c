use Rattle.hyd_rows_and_tables.specs.RowsOfLines.{rows_at}
use Rattle.hyd_build_nodes_patterns_and_options.specs.DemandsAndEmitters.{AreEmitters}
use Rattle.hyd_build_nodes_patterns_and_options.proofs.emitters.gather_emitters.Given as goal

abbrev pub invariant-loop-place : goal.invariant-loop-place
invariant-loop-place l = AreEmitters (rows_at l.text.text l.lines) l.place l.nodes.names l.emitters.items
