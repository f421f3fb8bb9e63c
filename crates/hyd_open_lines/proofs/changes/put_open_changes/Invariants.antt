use Rattle.std.proofs.Common.{map, take}
use Rattle.std.specs.Prelude.{Ok}
use Rattle.hyd_spec.specs.Lists.{joined}
use Rattle.hyd_spec_reports.specs.Report.{change_line}
use Rattle.hyd_spec_open_reports.specs.OpenReportLine.{open_line_text}
use Rattle.hyd_io.specs.TextPutIn.{Puts}
use Rattle.hyd_open_lines.proofs.changes.put_open_changes.Given as goal

-- the lines of the changes so far were put
abbrev pub invariant-loop-i : goal.invariant-loop-i
invariant-loop-i g l = Puts g.D.Desk.files g.D.Desk.rest g.D.Desk.written g.D.Desk.printed g.D.Desk.target
    g.D.Desk.ready g.D.Desk.counts g.D.Desk.openings
    (joined (map (λ change. open_line_text l.project
    (record { line = change_line l.at.first change; late = l.at.late })) (take l.i l.changes)))
    (Ok tt) l.fn.pen l.pen l.fn.desk l.desk
