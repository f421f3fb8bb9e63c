use Rattle.hyd_build_nodes_patterns_and_options.proofs.emitters.none_each.Given as goal
use Rattle.hyd_rows_and_tables.specs.IdTables.{AreNone}

abbrev pub invariant-loop : goal.invariant-loop
invariant-loop l = AreNone l.emitters.items l.counter
