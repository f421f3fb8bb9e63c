use Rattle.std.specs.List.{All}
use Rattle.hyd_sparse.specs.Tables.{IsTerm}
use Rattle.hyd_sparse.proofs.pattern_from_links.make_terms.Given as goal

abbrev pub invariant-loop-list : goal.invariant-loop-list
invariant-loop-list l = All (IsTerm l.rows l.links) l.items.items
