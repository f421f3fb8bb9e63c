use Rattle.hyd_period_length.proofs.NextReportTime.{later-report}
use Rattle.hyd_open_watches.proofs.instants.next_report.Goals as goal

pub returns : goal.returns
returns c =
    later-report c.args.project.now c.args.time c.to_multiple.result c.if-time-start.false c.to_multiple.ensures.to
