use Rattle.std.proofs.Common.{take, ◌∷◌, []}
use Rattle.std.specs.Prelude.{Ok}
use Rattle.hyd_io.specs.TextPutIn.{Puts}
use Rattle.hyd_spec_witnesses.specs.WitnessText.{value_lines}
use Rattle.hyd_witness_texts.proofs.writer.put_values.Given as goal

-- the values so far were put
abbrev pub invariant-loop-i : goal.invariant-loop-i
invariant-loop-i g l = Puts g.D.Desk.files g.D.Desk.rest g.D.Desk.written g.D.Desk.printed g.D.Desk.target
    g.D.Desk.ready g.D.Desk.counts g.D.Desk.openings (value_lines (l.key ∷ []) (take l.i l.values)) (Ok tt) l.fn.pen
    l.pen l.fn.desk l.desk
