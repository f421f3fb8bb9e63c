use Rattle.std.proofs.Common.{map, take}
use Rattle.std.specs.Prelude.{Ok}
use Rattle.hyd_spec.specs.Lists.{joined}
use Rattle.hyd_spec_reports.specs.ReportLine.{line_text}
use Rattle.hyd_spec_reports.specs.Report.{change_line}
use Rattle.hyd_io.specs.TextPutIn.{Puts}
use Rattle.hyd_report.proofs.changes.put_changes.Given as goal

-- the lines of the changes so far were put
abbrev pub invariant-loop-i : goal.invariant-loop-i
invariant-loop-i g l = Puts g.D.Desk.files g.D.Desk.rest g.D.Desk.written g.D.Desk.printed g.D.Desk.target
    g.D.Desk.ready g.D.Desk.counts g.D.Desk.openings
    (joined (map (λ change. line_text l.project (change_line l.time change)) (take l.i l.changes)))
    (Ok tt) l.fn.pen l.pen l.fn.desk l.desk
