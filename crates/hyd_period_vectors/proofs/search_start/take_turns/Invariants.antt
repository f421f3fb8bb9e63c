use Rattle.hyd_period_network.specs.NetAsPeriodNetwork.{grid_of}
use Rattle.hyd_period_vectors.specs.WayToProposedHeads.{AreInTurn}
use Rattle.hyd_period_vectors.proofs.search_start.take_turns.Given as goal

abbrev pub invariant-loop-i : goal.invariant-loop-i
invariant-loop-i l = record {
  turns : AreInTurn (grid_of l.net) l.problem l.side l.to l.heads;
}
