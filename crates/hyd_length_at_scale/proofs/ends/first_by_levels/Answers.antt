use Rattle.hyd_laws_at_scale.specs.Scales.{parts_of}
use Rattle.hyd_length_at_scale.specs.MetPeriods.{told}
use Rattle.hyd_length_at_scale.proofs.FirstSecondsOfLevels.{levels_first}
use Rattle.hyd_length_at_scale.proofs.ends.first_by_levels.Goals as goal

pub returns : goal.returns
returns c =
    let period = c.args.period.now in
    levels_first period.project.now (parts_of period.scale) (told period) c.args.cap c.first_bound-bound.result
    c.first_control_level.result c.first_bound-bound.ensures c.first_control_level.ensures
