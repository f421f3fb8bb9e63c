use Rattle.hyd_curves.proofs.points.empty_lists.Given as goal
use Rattle.hyd_rows_and_tables.specs.IdTables.{AreEmpty}

abbrev pub invariant-loop : goal.invariant-loop
invariant-loop l = AreEmpty l.lists.items l.counter
