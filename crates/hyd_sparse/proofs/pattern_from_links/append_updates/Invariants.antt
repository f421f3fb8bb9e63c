use Rattle.std.specs.List.{All}
use Rattle.hyd_sparse.specs.Tables.{IsUpdate}
use Rattle.hyd_sparse.proofs.pattern_from_links.append_updates.Given as goal

abbrev pub invariant-loop-update : goal.invariant-loop-update
invariant-loop-update l = All (IsUpdate l.columns l.entries) l.table.items
