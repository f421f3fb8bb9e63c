use Rattle.std.proofs.Common.{◌≡◌, ◌++◌, take, drop}
use Rattle.std.specs.Prelude.{map}
use Rattle.hyd_sweep.proofs.heads_where_sweeps_begin.begin.Given as goal

abbrev pub invariant-loop-i : goal.invariant-loop-i
invariant-loop-i l = l.u ≡ map (λ x. l.end) (take l.i l.initial.u) ++ drop l.i l.initial.u
