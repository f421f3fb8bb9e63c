use Rattle.std.proofs.Common.{◌≡◌, ◌≤◌, ◌-◌, length}
use Rattle.hyd_io.specs.DeskBytes.{prepend_known}
use Rattle.hyd_io.specs.LeftAsItWas.{KeepsOutput}
use Rattle.hyd_io.proofs.input.read_all.Given as goal

-- the bytes so far are the front of the rest at entry, and the desk is else as it was
abbrev pub invariant-loop-bytes : goal.invariant-loop-bytes
invariant-loop-bytes g l = record {
  front : g.D.Desk.rest l.fn.desk ≡ prepend_known l.bytes.items (g.D.Desk.rest l.desk);
  within : length l.bytes.items ≤ l.limit;
  steady : g.D.Desk.counts l.desk ≡ g.D.Desk.counts l.fn.desk;
  stays : KeepsOutput g.D.Desk.files g.D.Desk.written g.D.Desk.printed g.D.Desk.target g.D.Desk.ready g.D.Desk.counts
      g.D.Desk.openings l.fn.desk l.desk;
}

abbrev pub decreases-loop-bytes : goal.decreases-loop-bytes
decreases-loop-bytes g l = l.limit - length l.bytes.items
