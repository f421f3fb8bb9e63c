use Rattle.std.proofs.Common.{◌≡◌, arith}
use Rattle.std.proofs.lemmas.Int.{ints}
use Rattle.hyd_demands_and_reservoir_heads.specs.DemandsAndHeadsByNumber.{junction_demand}
use Rattle.hyd_demands_and_reservoir_heads.proofs.DemandsAndReservoirHeads.{demand_is}
use Rattle.hyd_demands_and_reservoir_heads.proofs.demands.demand_at.Goals as goal

pub returns-clause-ok : goal.returns-clause-ok
returns-clause-ok c =
    let value : c.total_demand-value.result ≡ junction_demand c.args.project.now c.args.time c.args.junction =
    demand_is c.args.project.now c.args.time c.args.junction c.as_slice.result.now c.index-as_slice-junction.result
    c.as_slice-categories.result.now c.total_demand-value.result
    c.requires.in_range c.as_slice.ensures c.as_slice-categories.ensures c.total_demand-value.ensures.value in
    omega (arith, ints, value)
