use Rattle.std.proofs.Common.{take, map}
use Rattle.std.specs.Prelude.{Ok}
use Rattle.hyd_io.specs.TextPutIn.{Puts}
use Rattle.hyd_spec.specs.Lists.{joined}
use Rattle.hyd_spec_flows.specs.FlowTexts.{named_text}
use Rattle.hyd_cert.specs.FlowPartView.{links_in}
use Rattle.hyd_cert.proofs.writer_with_flows.put_links.Given as goal

-- the links so far were put
abbrev pub invariant-loop-i : goal.invariant-loop-i
invariant-loop-i g l = Puts g.D.Desk.files g.D.Desk.rest g.D.Desk.written g.D.Desk.printed g.D.Desk.target
    g.D.Desk.ready g.D.Desk.counts g.D.Desk.openings (joined (map named_text (links_in (take l.i l.links)))) (Ok tt)
    l.fn.pen l.pen l.fn.desk l.desk
