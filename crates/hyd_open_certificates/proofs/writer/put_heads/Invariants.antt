use Rattle.std.proofs.Common.{take}
use Rattle.std.specs.Prelude.{Ok}
use Rattle.hyd_io.specs.TextPutIn.{Puts}
use Rattle.hyd_cert.specs.PlacesOfLines.{head_text}
use Rattle.hyd_open_certificates.proofs.writer.put_heads.Given as goal

-- the heads so far were put
abbrev pub invariant-loop-i : goal.invariant-loop-i
invariant-loop-i g l = Puts g.D.Desk.files g.D.Desk.rest g.D.Desk.written g.D.Desk.printed g.D.Desk.target
    g.D.Desk.ready g.D.Desk.counts g.D.Desk.openings (head_text l.junctions 0 (take l.i l.heads)) (Ok tt) l.fn.pen l.pen
    l.fn.desk l.desk
