use Rattle.hyd_targets.proofs.TargetsOfJunctions.{floor-around, ceiling-around, small-floor, small-ceiling}
use Rattle.hyd_targets.proofs.target_heads.heads_around.Goals as goal

pub returns-clause-lo : goal.returns-clause-lo
returns-clause-lo c =
    floor-around c.args.us c.args.pressure.nano c.pressure_ticks.result.lo c.pressure_ticks.ensures.floor

pub returns-clause-hi : goal.returns-clause-hi
returns-clause-hi c =
    ceiling-around c.args.us c.args.pressure.nano c.pressure_ticks.result.hi c.pressure_ticks.ensures.ceiling

pub returns-clause-lo_small : goal.returns-clause-lo_small
returns-clause-lo_small c =
    small-floor c.args.us c.args.pressure.nano c.pressure_ticks.result.lo c.requires c.pressure_ticks.ensures.floor

pub returns-clause-hi_small : goal.returns-clause-hi_small
returns-clause-hi_small c =
    small-ceiling c.args.us c.args.pressure.nano c.pressure_ticks.result.hi c.requires
    c.pressure_ticks.ensures.ceiling
