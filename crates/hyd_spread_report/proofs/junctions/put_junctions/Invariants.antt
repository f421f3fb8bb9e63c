use Rattle.std.proofs.Common.{take}
use Rattle.std.specs.Prelude.{Ok}
use Rattle.hyd_spec.specs.Lists.{map_from}
use Rattle.hyd_period_network.specs.NetAsPeriodNetwork.{grid_of}
use Rattle.hyd_io.specs.TextPutIn.{Puts}
use Rattle.hyd_spread_bounds.specs.BothSides.{pair_of}
use Rattle.hyd_report.specs.NodeAndLinkLines.{texts}
use Rattle.hyd_spread_report.specs.LinesOverBothSides.{junction_line_over}
use Rattle.hyd_spread_report.proofs.junctions.put_junctions.Given as goal

-- the lines of the junctions so far were put
abbrev pub invariant-loop-j : goal.invariant-loop-j
invariant-loop-j g l = Puts g.D.Desk.files g.D.Desk.rest g.D.Desk.written g.D.Desk.printed g.D.Desk.target
    g.D.Desk.ready g.D.Desk.counts g.D.Desk.openings
    (texts l.project (map_from (junction_line_over l.project (pair_of l.upper l.lower) l.low l.high) 0
    (take l.j (grid_of l.upper).junctions)))
    (Ok tt) l.fn.pen l.pen l.fn.desk l.desk
