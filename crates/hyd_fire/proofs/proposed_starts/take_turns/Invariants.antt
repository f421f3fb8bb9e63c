use Rattle.hyd_period_network.specs.NetAsPeriodNetwork.{grid_of}
use Rattle.hyd_fire.specs.TurnsWithHeldJunction.{AreInTurn}
use Rattle.hyd_fire.proofs.proposed_starts.take_turns.Given as goal

abbrev pub invariant-loop-i : goal.invariant-loop-i
invariant-loop-i l = record {
  turns : AreInTurn l.held (grid_of l.net) l.side l.to l.heads;
}
