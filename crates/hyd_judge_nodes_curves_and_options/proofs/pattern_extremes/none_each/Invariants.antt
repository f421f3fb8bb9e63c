use Rattle.hyd_judge_nodes_curves_and_options.proofs.pattern_extremes.none_each.Given as goal
use Rattle.hyd_rows_and_tables.specs.IdTables.{AreNone}

abbrev pub invariant-loop : goal.invariant-loop
invariant-loop l = AreNone l.each.items l.counter
