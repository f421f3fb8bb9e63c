use Rattle.std.proofs.Common.{◌≡◌, [], length}
use Rattle.hyd_period_network.specs.LinkEnds.{AreRows}
use Rattle.hyd_period_network.proofs.link_ends.empty_rows.Given as goal

abbrev pub invariant-loop : goal.invariant-loop
invariant-loop l = record { count : length l.rows.items ≡ l.counter; rows : AreRows [] l.rows.items }
