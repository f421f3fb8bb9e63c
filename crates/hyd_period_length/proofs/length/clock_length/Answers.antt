use Rattle.std.proofs.Common.{arith}
use Rattle.hyd_period_length.proofs.FirstClockInstant.{length-is}
use Rattle.hyd_period_length.proofs.length.clock_length.Goals as goal

pub returns-clause-length : goal.returns-clause-length
returns-clause-length c =
    let a = c.min.ensures in
    let b = c.min-2.ensures in
    let d = c.min-alone.ensures in
    length-is c.args.project.now c.args.time c.next_pattern.result c.next_report.result c.min-alone.result
    c.first_control.result c.next_pattern.ensures c.next_report.ensures c.requires.before_end
    c.requires.sound.times.hydraulic (omega (arith, a, b, d)) c.first_control.ensures
