use Rattle.std.proofs.Common.{◌+◌, ◌*◌}
use Rattle.hyd_cert.specs.RecordView.{row_of}
use Rattle.hyd_period_vectors.specs.SoughtVectors.{EachBefore, Stays}
use Rattle.hyd_spread_vectors.specs.VectorsOfBothNetworks.{HaveSameCounts, IsHeldIn, held_in}
use Rattle.hyd_spread_vectors.proofs.written_sides.write_sides.Given as goal

abbrev pub invariant-loop-tank : goal.invariant-loop-tank
invariant-loop-tank l = record {
  each : EachBefore (IsHeldIn (held_in l.above l.below)) l.fn.row.tanks (2 * l.tank + 2) (row_of l.row);
  above : HaveSameCounts l.above l.row;
  below : HaveSameCounts l.below l.row;
  stays : Stays l.fn.row l.row;
}
