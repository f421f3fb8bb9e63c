use Rattle.std.specs.List.{All}
use Rattle.hyd_sparse.specs.Tables.{IsTerm}
use Rattle.hyd_sparse.proofs.pattern_from_links.append_terms.Given as goal

abbrev pub invariant-loop-term : goal.invariant-loop-term
invariant-loop-term l = All (IsTerm l.rows l.links) l.table.items
