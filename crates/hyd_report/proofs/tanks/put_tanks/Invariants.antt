use Rattle.std.proofs.Common.{take}
use Rattle.std.specs.Prelude.{Ok}
use Rattle.hyd_spec.specs.Lists.{map_from}
use Rattle.hyd_io.specs.TextPutIn.{Puts}
use Rattle.hyd_report.specs.NodeAndLinkLines.{texts, tank_line}
use Rattle.hyd_report.proofs.tanks.put_tanks.Given as goal

-- the lines of the tanks so far were put
abbrev pub invariant-loop-k : goal.invariant-loop-k
invariant-loop-k g l = Puts g.D.Desk.files g.D.Desk.rest g.D.Desk.written g.D.Desk.printed g.D.Desk.target
    g.D.Desk.ready g.D.Desk.counts g.D.Desk.openings
    (texts l.project (map_from (tank_line l.project l.levels l.inflows l.states) 0 (take l.k l.project.tanks.list)))
    (Ok tt) l.fn.pen l.pen l.fn.desk l.desk
