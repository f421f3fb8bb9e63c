use Rattle.hyd_length_at_scale.proofs.NextReportTime.{later-report}
use Rattle.hyd_length_at_scale.proofs.clock.next_report.Goals as goal

pub returns : goal.returns
returns c =
    later-report c.args.project.now c.args.time c.to_multiple.result c.if-time-start.false c.to_multiple.ensures.to
