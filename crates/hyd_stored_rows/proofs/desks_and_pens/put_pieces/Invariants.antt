use Rattle.std.proofs.Common.{IsTrue}
use Rattle.hyd_io.specs.DeskInMemoryView.{memory}
use Rattle.hyd_io.specs.Output.{OnCert}
use Rattle.hyd_stored_rows.proofs.desks_and_pens.put_pieces.Given as goal

-- the desk stays ready for the pen
abbrev pub invariant-loop-piece : goal.invariant-loop-piece
invariant-loop-piece l = record {
  can : (goal.iterator-loop-piece).can_next l.piece-iterator;
  ends : (goal.iterator-loop-piece).is_finite l.piece-iterator;
  ready : OnCert l.pen.to (IsTrue (memory l.desk).ready);
}
