use Rattle.std.proofs.Common.{◌≡◌, ◌-◌, length}
use Rattle.hyd_io.specs.DeskBytes.{prepend_known}
use Rattle.hyd_io.specs.LeftAsItWas.{KeepsOutput}
use Rattle.hyd_line_reader.proofs.line_reader.Source.line.Given as goal

-- what is still to come is the same, and the desk is else as it was
abbrev pub invariant-loop-n : goal.invariant-loop-n
invariant-loop-n g l = record {
  same : prepend_known l.self (g.D.Desk.rest l.desk) ≡ prepend_known l.fn.self (g.D.Desk.rest l.fn.desk);
  steady : g.D.Desk.counts l.desk ≡ g.D.Desk.counts l.fn.desk;
  stays : KeepsOutput g.D.Desk.files g.D.Desk.written g.D.Desk.printed g.D.Desk.target g.D.Desk.ready g.D.Desk.counts
      g.D.Desk.openings l.fn.desk l.desk;
}

abbrev pub decreases-loop-n : goal.decreases-loop-n
decreases-loop-n g l = 64 - length l.self
