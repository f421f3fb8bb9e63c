use Rattle.std.proofs.Common.{◌<◌, ℕ}
use Rattle.std.specs.Prelude.{All}
use Rattle.hyd_spec_certificates.specs.Certificate.{IsInBox}
use Rattle.hyd_period_network.specs.NetAsPeriodNetwork.{grid_of}
use Rattle.hyd_sweep.specs.Leaps.{IsTurn, MayMove}
use Rattle.hyd_sweep.proofs.leaps.take_turns.Given as goal

abbrev pub invariant-loop-i : goal.invariant-loop-i
invariant-loop-i l = record {
  turn : IsTurn l.side l.u l.to l.heads l.i;
  in_box : All IsInBox l.heads;
  moves : (k : ℕ) → k < l.i → MayMove l.held (grid_of l.net) l.problem l.side l.u l.to k;
}
