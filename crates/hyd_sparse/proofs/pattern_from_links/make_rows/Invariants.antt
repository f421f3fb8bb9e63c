use Rattle.std.proofs.Common.{◌<◌}
use Rattle.std.specs.List.{All}
use Rattle.hyd_sparse.proofs.pattern_from_links.make_rows.Given as goal

abbrev pub invariant-loop-eliminated : goal.invariant-loop-eliminated
invariant-loop-eliminated l = All (λ row. row < l.columns) l.items.items
