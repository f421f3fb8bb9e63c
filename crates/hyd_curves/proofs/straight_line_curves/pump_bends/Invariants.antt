use Rattle.hyd_rows_and_tables.specs.RowsOfLines.{rows_at}
use Rattle.hyd_curves.specs.NamedStraightLineCurves.{AreOfPumps}
use Rattle.hyd_curves.proofs.straight_line_curves.pump_bends.Given as goal

abbrev pub invariant-loop-place : goal.invariant-loop-place
invariant-loop-place l = AreOfPumps (rows_at l.text.text l.lines) l.place l.bends
