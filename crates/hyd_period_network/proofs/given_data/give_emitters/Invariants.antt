use Rattle.hyd_period_network.proofs.GivenDataLemmas.{AreGiven}
use Rattle.hyd_period_network.proofs.given_data.give_emitters.Given as goal

abbrev pub invariant-loop-i : goal.invariant-loop-i
invariant-loop-i l = AreGiven l.i l.initial.junctions l.emitters l.junctions
