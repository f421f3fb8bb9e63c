use Rattle.std.proofs.Common.{refl}
use Rattle.hyd_spread_bounds.proofs.InflowsOfBothSides.{inflow-of-record}
use Rattle.hyd_spread_bounds.proofs.order.bounds_of_records.Goals as goal

pub returns-clause-below : goal.returns-clause-below
returns-clause-below c pair row = refl

pub returns-clause-above : goal.returns-clause-above
returns-clause-above c pair row = refl

pub returns-clause-inflows : goal.returns-clause-inflows
returns-clause-inflows c = inflow-of-record
