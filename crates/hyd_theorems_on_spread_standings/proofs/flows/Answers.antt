use Rattle.hyd_theorems_on_spread_standings.proofs.FlowsOverPairs.{flows-over}
use Rattle.hyd_theorems_on_spread_standings.proofs.flows.Goals as goal

pub returns : goal.returns
returns c = flows-over
