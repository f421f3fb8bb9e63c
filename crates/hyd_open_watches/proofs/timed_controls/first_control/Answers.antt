use Rattle.hyd_period_length.proofs.TimeControlsSoFar.{one-further}
use Rattle.hyd_open_watches.proofs.timed_controls.first_control.Goals as goal

pub loop-control-preserved : goal.loop-control-preserved
loop-control-preserved c =
    one-further c.args.project.now c.args.time c.args.cap c.as_slice-control-items.result.now
    c.loop-control.control-index
    c.loop-control.first c.first_coming-first.result c.control-item.result c.loop-control-test.true c.control-item.is
    c.loop-control.invariant c.first_coming-first.ensures
