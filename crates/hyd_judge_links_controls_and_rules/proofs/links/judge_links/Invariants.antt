use Rattle.hyd_rows_and_tables.specs.RowsOfLines.{rows_at}
use Rattle.hyd_judge_links_controls_and_rules.specs.LinksSoFar.{AreLinks}
use Rattle.hyd_judge_links_controls_and_rules.proofs.links.judge_links.Given as goal

abbrev pub invariant-loop-place : goal.invariant-loop-place
invariant-loop-place l = AreLinks l.text.text (rows_at l.text.text l.lines) l.place l.links
