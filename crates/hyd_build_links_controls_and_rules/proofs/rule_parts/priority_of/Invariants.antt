use Rattle.std.proofs.Common.{◌≡◌}
use Rattle.hyd_spec_input.specs.MeaningsAcrossRows.{priority_of}
use Rattle.hyd_rows_and_tables.specs.RowsOfLines.{rows_at}
use Rattle.hyd_build_links_controls_and_rules.specs.Rules.{rest_of_rule}
use Rattle.hyd_build_links_controls_and_rules.proofs.rule_parts.priority_of.Given as goal

abbrev pub invariant-loop-place : goal.invariant-loop-place
invariant-loop-place l =
    priority_of (rest_of_rule (rows_at l.text.text l.lines) l.place)
    ≡ priority_of (rest_of_rule (rows_at l.text.text l.lines) l.from)
