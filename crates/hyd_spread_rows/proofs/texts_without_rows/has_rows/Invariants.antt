use Rattle.std.proofs.Common.{◌≡◌, length}
use Rattle.hyd_spread_rows.specs.TextsWithoutRows.{has_rows}
use Rattle.hyd_spread_rows.proofs.texts_without_rows.has_rows.Given as goal

abbrev pub invariant-loop-left : goal.invariant-loop-left
invariant-loop-left l = has_rows l.left ≡ has_rows l.text

abbrev pub decreases-loop-left : goal.decreases-loop-left
decreases-loop-left l = length l.left
