use Rattle.std.proofs.Common.{List, take, map}
use Rattle.std.specs.Prelude.{Ok}
use Rattle.std.specs.List.{AllZip}
use Rattle.hyd_io.specs.TextPutIn.{Puts}
use Rattle.hyd_spec.specs.Lists.{joined}
use Rattle.hyd_spec_reports_with_flows.specs.FlowLines.{FlowLine, IsFlowLine, flow_line_text}
use Rattle.hyd_cert.specs.FlowPartView.{links_in}
use Rattle.hyd_period_network.specs.NetAsPeriodNetwork.{grid_of}
use Rattle.hyd_flow.proofs.flow_lines.put_each.Given as goal

-- the lines of the links so far were put
abbrev pub invariant-loop-i : goal.invariant-loop-i
invariant-loop-i g l =
    (lines : List FlowLine)
    × (AllZip (IsFlowLine l.project (grid_of l.net) l.row.time) (links_in (take l.i l.links)) lines
    × Puts g.D.Desk.files g.D.Desk.rest g.D.Desk.written g.D.Desk.printed g.D.Desk.target
    g.D.Desk.ready g.D.Desk.counts g.D.Desk.openings (joined (map (flow_line_text l.project) lines)) (Ok tt)
    l.fn.pen l.pen l.fn.desk l.desk)
