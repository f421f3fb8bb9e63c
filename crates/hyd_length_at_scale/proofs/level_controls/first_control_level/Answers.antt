use Rattle.hyd_laws_at_scale.specs.Scales.{parts_of}
use Rattle.hyd_length_at_scale.specs.MetPeriods.{told}
use Rattle.hyd_length_at_scale.proofs.FirstSecondsOfLevels.{no_control, one_control_more, all_controls}
use Rattle.hyd_length_at_scale.proofs.level_controls.first_control_level.Goals as goal

pub loop-control-init : goal.loop-control-init
loop-control-init c =
    let period = c.args.period.now in
    no_control period.project.now (parts_of period.scale) (told period) c.args.cap

pub loop-control-preserved : goal.loop-control-preserved
loop-control-preserved c =
    let period = c.args.period.now in
    one_control_more period.project.now (parts_of period.scale) (told period) c.as_slice-control-items.result.now
    c.loop-control.control-index c.args.cap c.loop-control.first c.first_level-first.result c.control-item.result
    c.loop-control-test.true c.control-item.is c.loop-control.invariant c.first_level-first.ensures

pub returns : goal.returns
returns c =
    let period = c.args.period.now in
    all_controls period.project.now (parts_of period.scale) (told period) c.as_slice-control-items.result.now
    period.project.now.controls.list c.loop-control.control-index c.args.cap c.loop-control.first
    c.loop-control-test.false c.as_slice-control-items.ensures c.loop-control.invariant
