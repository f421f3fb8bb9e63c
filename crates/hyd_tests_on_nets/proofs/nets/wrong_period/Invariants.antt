use Rattle.hyd_period_network.specs.NetsSetToPeriods.{IsNetOf}
use Rattle.hyd_period_network.specs.LawsInSettings.{AreStates}
use Rattle.hyd_tests_on_nets.proofs.nets.wrong_period.Given as goal

abbrev pub invariant-loop-part : goal.invariant-loop-part
invariant-loop-part l = IsNetOf l.project l.net × AreStates l.project l.states
