use Rattle.hyd_spec_input.specs.Project.{IsAction}
use Rattle.hyd_rows_and_tables.specs.RowsOfLines.{rows_at}
use Rattle.hyd_build_links_controls_and_rules.specs.Rules.{AreParts, is_of_branch}
use Rattle.hyd_build_links_controls_and_rules.proofs.rule_parts.actions_of.Given as goal

abbrev pub invariant-loop-place : goal.invariant-loop-place
invariant-loop-place l =
    AreParts (is_of_branch l.branch) (IsAction (rows_at l.text.text l.lines)) (rows_at l.text.text l.lines) l.from
    l.place l.stage l.list.list
