use Rattle.std.proofs.Common.{arith}
use Rattle.hyd_open_watches.proofs.NextInstant.{seconds-are}
use Rattle.hyd_open_watches.proofs.instants.seconds_to_instant.Goals as goal

pub returns-clause-seconds : goal.returns-clause-seconds
returns-clause-seconds c =
    let a = c.min.ensures in
    let b = c.min-alone.ensures in
    seconds-are c.args.project.now c.args.time c.next_pattern.result c.next_report.result c.min-alone.result
    c.first_control.result c.next_pattern.ensures c.next_report.ensures c.requires.before_end (omega (arith, a, b))
    c.first_control.ensures
