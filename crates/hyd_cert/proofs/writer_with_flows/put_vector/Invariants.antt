use Rattle.std.proofs.Common.{take}
use Rattle.std.specs.Prelude.{Ok}
use Rattle.hyd_io.specs.TextPutIn.{Puts}
use Rattle.hyd_cert.specs.PlacesWithFlows.{held_lines}
use Rattle.hyd_cert.proofs.writer_with_flows.put_vector.Given as goal

-- the heads so far were put
abbrev pub invariant-loop-i : goal.invariant-loop-i
invariant-loop-i g l = Puts g.D.Desk.files g.D.Desk.rest g.D.Desk.written g.D.Desk.printed g.D.Desk.target
    g.D.Desk.ready g.D.Desk.counts g.D.Desk.openings (held_lines l.front (take l.i l.heads)) (Ok tt) l.fn.pen l.pen
    l.fn.desk l.desk
