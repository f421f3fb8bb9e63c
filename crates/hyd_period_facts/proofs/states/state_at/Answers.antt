use Rattle.std.specs.Prelude.{map, slice_index_or}
use Rattle.hyd_spec_certificates.specs.SpansAsIntervals.{levels_of}
use Rattle.hyd_spec_certificates.specs.Decided.{nowhere}
use Rattle.hyd_period_facts.proofs.DecidedTankStates.{range_of, state_is}
use Rattle.hyd_period_facts.proofs.states.state_at.Goals as goal

pub state_of-requires : goal.state_of-requires
state_of-requires c =
    range_of c.args.project.now c.requires.sound c.args.tank c.tank_at-here.result c.requires.in_range
    c.tank_at-here.ensures

pub returns : goal.returns
returns c = λ each at.
    state_is c.args.project.now.tanks.list c.args.tank c.tank_at-here.result each (levels_of c.level_at-level.result)
    (slice_index_or (map levels_of c.args.levels.now) c.args.tank nowhere) c.state_of.result c.tank_at-here.ensures at
    c.level_at-level.ensures c.state_of.ensures.value
