use Rattle.std.proofs.Common.{map, take}
use Rattle.std.specs.Prelude.{Ok}
use Rattle.hyd_spec.specs.Lists.{joined}
use Rattle.hyd_spec_reports.specs.Report.{event_line}
use Rattle.hyd_spec_open_reports.specs.OpenReportLine.{open_line_text}
use Rattle.hyd_io.specs.TextPutIn.{Puts}
use Rattle.hyd_open_lines.proofs.events.put_open_events.Given as goal

-- the lines of the events so far were put
abbrev pub invariant-loop-i : goal.invariant-loop-i
invariant-loop-i g l = Puts g.D.Desk.files g.D.Desk.rest g.D.Desk.written g.D.Desk.printed g.D.Desk.target
    g.D.Desk.ready g.D.Desk.counts g.D.Desk.openings
    (joined (map (λ event. open_line_text l.project
    (record { line = event_line l.at.first event; late = l.at.late })) (take l.i l.events)))
    (Ok tt) l.fn.pen l.pen l.fn.desk l.desk
