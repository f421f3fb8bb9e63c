use Rattle.std.proofs.Common.{◌≡◌, length}
use Rattle.hyd_io.specs.DeskBytes.{Moves}
use Rattle.hyd_io.specs.Output.{by_channel}
use Rattle.hyd_io.specs.LeftAsItWas.{KeepsOthers}
use Rattle.hyd_io.proofs.output.put_all.Given as goal

-- a front of the bytes is out, and the desk is else as it was
abbrev pub invariant-loop-left : goal.invariant-loop-left
invariant-loop-left g l = record {
  moves : Moves (by_channel l.to (g.D.Desk.written l.fn.desk) (g.D.Desk.printed l.fn.desk)) (by_channel l.to
      (g.D.Desk.written l.desk) (g.D.Desk.printed l.desk)) l.bytes l.left;
  steady : g.D.Desk.counts l.desk ≡ g.D.Desk.counts l.fn.desk;
  stays : KeepsOthers g.D.Desk.files g.D.Desk.rest g.D.Desk.written g.D.Desk.printed g.D.Desk.target g.D.Desk.ready
      g.D.Desk.counts g.D.Desk.openings l.to l.fn.desk l.desk;
}

abbrev pub decreases-loop-left : goal.decreases-loop-left
decreases-loop-left g l = length l.left
