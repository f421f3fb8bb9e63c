use Rattle.std.proofs.Common.{arith}
use Rattle.hyd_length_at_scale.proofs.FirstClockInstant.{first-is}
use Rattle.hyd_length_at_scale.proofs.clock.clock_end.Goals as goal

pub returns-clause-least : goal.returns-clause-least
returns-clause-least c =
    let a = c.min.ensures in
    let b = c.min-2.ensures in
    let d = c.min-alone.ensures in
    first-is c.args.project.now c.args.time c.next_pattern.result c.next_report.result c.min-alone.result
    c.first_control.result c.next_pattern.ensures c.next_report.ensures c.requires.before_end
    c.requires.sound.times.hydraulic (omega (arith, a, b, d)) c.first_control.ensures
