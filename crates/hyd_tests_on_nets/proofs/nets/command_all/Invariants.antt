use Rattle.hyd_period_network.specs.LawsInSettings.{AreStates}
use Rattle.hyd_tests_on_nets.proofs.nets.command_all.Given as goal

abbrev pub invariant-loop-order : goal.invariant-loop-order
invariant-loop-order l = AreStates l.project l.states
