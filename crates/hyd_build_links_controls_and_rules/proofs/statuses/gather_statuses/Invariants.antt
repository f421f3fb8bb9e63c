use Rattle.hyd_rows_and_tables.specs.RowsOfLines.{rows_at}
use Rattle.hyd_build_links_controls_and_rules.specs.Statuses.{AreStatuses}
use Rattle.hyd_build_links_controls_and_rules.proofs.statuses.gather_statuses.Given as goal

abbrev pub invariant-loop-place : goal.invariant-loop-place
invariant-loop-place l = AreStatuses l.text.text (rows_at l.text.text l.lines) l.place l.links.names l.last.items
