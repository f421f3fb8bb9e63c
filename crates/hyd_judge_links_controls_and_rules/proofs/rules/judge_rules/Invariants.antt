use Rattle.hyd_rows_and_tables.specs.RowsOfLines.{rows_at}
use Rattle.hyd_judge_links_controls_and_rules.specs.Rules.{AreRules}
use Rattle.hyd_judge_links_controls_and_rules.proofs.rules.judge_rules.Given as goal

abbrev pub invariant-loop-place : goal.invariant-loop-place
invariant-loop-place l = AreRules (rows_at l.text.text l.lines) l.place l.rules
