use Rattle.hyd_rows_and_tables.specs.RowsOfLines.{rows_at}
use Rattle.hyd_curves.specs.Points.{AreGathered}
use Rattle.hyd_curves.proofs.points.gather_points.Given as goal

abbrev pub invariant-loop-place : goal.invariant-loop-place
invariant-loop-place l = AreGathered (rows_at l.text.text l.lines) l.place l.curves.names l.points
