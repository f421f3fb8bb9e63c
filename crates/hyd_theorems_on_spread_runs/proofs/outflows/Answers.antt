use Rattle.hyd_theorems_on_spread_runs.proofs.OutflowsWithin.{outflow_lies}
use Rattle.hyd_theorems_on_spread_runs.proofs.outflows.Goals as goal

pub returns : goal.returns
returns c = λ project spread S time intervals levels tanks links nodes assignment is below above under over.
    outflow_lies project spread S time intervals levels tanks links nodes assignment is over.grid under.grid
    over.is_outermost under.is_outermost above below over.is_certificate under.is_certificate
