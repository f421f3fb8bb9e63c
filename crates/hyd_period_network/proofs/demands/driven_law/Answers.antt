use Rattle.std.proofs.Common.{w64}
use Rattle.std.proofs.lemmas.Int.{to_z-of_z}
use Rattle.hyd_period_network.proofs.DemandLaws.{driven_is}
use Rattle.hyd_period_network.proofs.demands.driven_law.Goals as goal

pub returns-clause-law : goal.returns-clause-law
returns-clause-law c =
    let origin = (rw (to_z-of_z w64 c.args.demand c.ranges.demand) at c.pda_capacity.ensures.origin) in
    rw (to_z-of_z w64 c.args.demand c.ranges.demand)
    (driven_is c.args.project.now c.args.demand c.is_us-us.result c.pda_capacity.result c.pressure_ticks.result
    c.pressure_ticks-2.result c.is_us-us.ensures c.requires.driven c.requires.demanded
    c.requires.options.minimum origin c.pda_capacity.ensures.made c.pressure_ticks.ensures.floor
    c.pressure_ticks.ensures.ceiling c.pressure_ticks-2.ensures.floor c.pressure_ticks-2.ensures.ceiling)
