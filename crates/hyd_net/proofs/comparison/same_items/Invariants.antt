use Rattle.std.proofs.Common.{◌≡◌, ℕ, ◌<◌, get_or}
use Rattle.hyd_net.proofs.comparison.same_items.Given as goal

abbrev pub invariant-loop-i : goal.invariant-loop-i
invariant-loop-i g l =
    (k : ℕ) → k < l.i → (d : g.row.T.Denot) → g.T.Alike.compared (get_or l.a k d) ≡ g.T.Alike.compared (get_or l.b k d)
