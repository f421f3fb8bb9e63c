use Rattle.hyd_build_links_controls_and_rules.proofs.statuses.none_each.Given as goal
use Rattle.hyd_rows_and_tables.specs.IdTables.{AreNone}

abbrev pub invariant-loop : goal.invariant-loop
invariant-loop l = AreNone l.last.items l.counter
