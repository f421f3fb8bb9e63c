use Rattle.hyd_rows_and_tables.specs.RowsOfLines.{rows_at}
use Rattle.hyd_curves.specs.NamedVolumeCurves.{AreShapesAt}
use Rattle.hyd_curves.proofs.volume_curves.gather_shapes.Given as goal

abbrev pub invariant-loop-place : goal.invariant-loop-place
invariant-loop-place l = AreShapesAt (rows_at l.text.text l.lines) l.place l.shapes
