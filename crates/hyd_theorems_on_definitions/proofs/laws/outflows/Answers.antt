use Rattle.hyd_theorems_on_definitions.proofs.OutflowsRise.{AreRising-demand, AreRising-emitter}
use Rattle.hyd_theorems_on_definitions.proofs.laws.outflows.Goals as goal

pub returns-clause-demands : goal.returns-clause-demands
returns-clause-demands c = AreRising-demand

pub returns-clause-emitters : goal.returns-clause-emitters
returns-clause-emitters c = AreRising-emitter
