use Rattle.std.specs.Prelude.{Option, Some, IfSome}
use Rattle.std.proofs.Common.{subst, ◌≡◌}
use Rattle.hyd_open_stocks.proofs.stocks_at_end.carried_at_end.Goals as goal

pub cut_carried-requires-clause-reach : goal.cut_carried-requires-clause-reach
cut_carried-requires-clause-reach c = λ each at. rw c.in-Some.is at (c.requires.reach each at)
