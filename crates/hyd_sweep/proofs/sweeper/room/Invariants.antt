use Rattle.std.proofs.Common.{◌≡◌, length}
use Rattle.hyd_sweep.proofs.sweeper.room.Given as goal

abbrev pub invariant-loop : goal.invariant-loop
invariant-loop l = length l.room.items ≡ l.counter
