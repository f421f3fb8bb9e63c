use Rattle.std.specs.List.{All}
use Rattle.hyd_sparse.specs.Tables.{IsUpdate}
use Rattle.hyd_sparse.proofs.pattern_from_links.make_updates.Given as goal

abbrev pub invariant-loop-list : goal.invariant-loop-list
invariant-loop-list l = All (IsUpdate l.columns l.entries) l.items.items
