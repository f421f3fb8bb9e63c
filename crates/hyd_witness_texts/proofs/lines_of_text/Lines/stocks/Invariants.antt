use Rattle.std.proofs.Common.{◌≡◌, take}
use Rattle.std.specs.Prelude.{All}
use Rattle.hyd_io.specs.DeskBytes.{prepend_known}
use Rattle.hyd_io.specs.LeftAsItWas.{KeepsOutput}
use Rattle.hyd_spec_witnesses.specs.WitnessText.{IsValue, stock_lines}
use Rattle.hyd_cert.specs.Faults.{lines_on}
use Rattle.hyd_witness_texts.proofs.lines_of_text.Lines.stocks.Given as goal

-- the stocks so far were read
abbrev pub invariant-loop-i : goal.invariant-loop-i
invariant-loop-i g l = record {
  text : prepend_known l.fn.self.source (g.D.Desk.rest l.fn.desk)
      ≡ prepend_known (stock_lines (take l.i l.levels) (take l.i l.volumes)) (prepend_known l.self.source
      (g.D.Desk.rest l.desk));
  levels : All IsValue (take l.i l.levels);
  volumes : All IsValue (take l.i l.volumes);
  line : l.self.line ≡ lines_on l.fn.self.line l.i;
  steady : g.D.Desk.counts l.desk ≡ g.D.Desk.counts l.fn.desk;
  stays : KeepsOutput g.D.Desk.files g.D.Desk.written g.D.Desk.printed g.D.Desk.target g.D.Desk.ready g.D.Desk.counts
      g.D.Desk.openings l.fn.desk l.desk;
}
