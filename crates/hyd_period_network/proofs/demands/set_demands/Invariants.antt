use Rattle.std.proofs.Common.{◌≡◌, length}
use Rattle.hyd_period_network.specs.Demands.{AreHeld, AreDemandsAt}
use Rattle.hyd_period_network.proofs.demands.set_demands.Given as goal

abbrev pub invariant-loop-i : goal.invariant-loop-i
invariant-loop-i l = record {
  count : length l.demands ≡ length l.project.junctions.list;
  held : AreHeld l.project l.demands;
  set : AreDemandsAt l.project l.time l.demands l.i;
}
