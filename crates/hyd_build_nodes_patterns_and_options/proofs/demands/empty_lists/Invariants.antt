use Rattle.hyd_build_nodes_patterns_and_options.proofs.demands.empty_lists.Given as goal
use Rattle.hyd_rows_and_tables.specs.IdTables.{AreEmpty}

abbrev pub invariant-loop : goal.invariant-loop
invariant-loop l = AreEmpty l.lists.items l.counter
