use Rattle.std.proofs.Common.{◌≡◌, ◌<◌, ◌++◌, length, take}
use Rattle.hyd_io.specs.Buffers.{buffer_bytes}
use Rattle.hyd_io.specs.DeskBytes.{Moves}
use Rattle.hyd_io.specs.Output.{by_channel}
use Rattle.hyd_io.specs.LeftAsItWas.{KeepsOthers}
use Rattle.hyd_io.proofs.output.put_through.Given as goal

-- a front of what was held and of the piece is out, the buffer holds what follows, and the desk is
-- else as it was
abbrev pub invariant-loop-rest : goal.invariant-loop-rest
invariant-loop-rest g l = record {
  room : l.used < buffer_bytes;
  moves : Moves (by_channel l.to (g.D.Desk.written l.fn.desk) (g.D.Desk.printed l.fn.desk)) (by_channel l.to
      (g.D.Desk.written l.desk) (g.D.Desk.printed l.desk)) (take l.fn.used l.fn.buffer ++ l.piece) (take l.used
      l.buffer ++ l.rest);
  steady : g.D.Desk.counts l.desk ≡ g.D.Desk.counts l.fn.desk;
  stays : KeepsOthers g.D.Desk.files g.D.Desk.rest g.D.Desk.written g.D.Desk.printed g.D.Desk.target g.D.Desk.ready
      g.D.Desk.counts g.D.Desk.openings l.to l.fn.desk l.desk;
}

abbrev pub decreases-loop-rest : goal.decreases-loop-rest
decreases-loop-rest g l = length l.rest
