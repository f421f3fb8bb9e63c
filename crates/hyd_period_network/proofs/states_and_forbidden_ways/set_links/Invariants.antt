use Rattle.std.proofs.Common.{◌≡◌, length, map}
use Rattle.hyd_spec.specs.NodeNumbers.{nodes_before_tanks}
use Rattle.hyd_period_network.specs.BothLaws.{AreFree}
use Rattle.hyd_period_network.specs.LawsInSettings.{AreBoth, AreSet}
use Rattle.hyd_period_network.specs.NetsSetToPeriods.{ends_of}
use Rattle.hyd_period_network.proofs.states_and_forbidden_ways.set_links.Given as goal

abbrev pub invariant-loop-i : goal.invariant-loop-i
invariant-loop-i l = record {
  settings : length l.settings ≡ length l.links;
  laws : length l.laws ≡ length l.links;
  stand : AreBoth l.project l.links l.settings l.laws;
  free : AreFree (nodes_before_tanks l.project) (map ends_of l.links) l.laws;
  set : AreSet l.project l.tanks l.links l.states l.settings l.i;
}
