use Rattle.hyd_theorems_on_spread_runs.proofs.InflowsWithin.{inflow_lies}
use Rattle.hyd_theorems_on_spread_runs.proofs.tank_inflows.Goals as goal

pub returns : goal.returns
returns c = λ project spread S time intervals levels tanks links nodes assignment is k below above under over.
    inflow_lies project spread S time intervals levels tanks links nodes assignment is under.grid over.grid
    under.is_outermost over.is_outermost k below above under.is_certificate over.is_certificate
