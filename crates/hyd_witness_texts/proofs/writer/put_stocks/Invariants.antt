use Rattle.std.proofs.Common.{take}
use Rattle.std.specs.Prelude.{Ok}
use Rattle.hyd_io.specs.TextPutIn.{Puts}
use Rattle.hyd_spec_witnesses.specs.WitnessText.{stock_lines}
use Rattle.hyd_witness_texts.proofs.writer.put_stocks.Given as goal

-- the stocks so far were put
abbrev pub invariant-loop-i : goal.invariant-loop-i
invariant-loop-i g l = Puts g.D.Desk.files g.D.Desk.rest g.D.Desk.written g.D.Desk.printed g.D.Desk.target
    g.D.Desk.ready g.D.Desk.counts g.D.Desk.openings (stock_lines (take l.i l.levels) (take l.i l.volumes)) (Ok tt)
    l.fn.pen l.pen l.fn.desk l.desk
