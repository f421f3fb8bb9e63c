use Rattle.hyd_rows_and_tables.specs.RowsOfLines.{rows_at}
use Rattle.hyd_build_links_controls_and_rules.specs.Controls.{AreControls}
use Rattle.hyd_build_links_controls_and_rules.proofs.controls.build_controls.Given as goal

abbrev pub invariant-loop-place : goal.invariant-loop-place
invariant-loop-place l = AreControls (rows_at l.text.text l.lines) l.place l.list.list
