use Rattle.std.proofs.Common.{◌≡◌, drop}
use Rattle.hyd_spec_input.specs.RuleRows.{some_then, until_rule}
use Rattle.hyd_spec_input.specs.SectionsAndTables.{words_of}
use Rattle.hyd_spec_lines.specs.declared.section.Section.TheVariants.{Rules}
use Rattle.hyd_rows_and_tables.specs.RowsOfLines.{rows_at}
use Rattle.hyd_network_rows.proofs.rules.has_then.Given as goal

abbrev pub invariant-loop-place : goal.invariant-loop-place
invariant-loop-place l =
    some_then (until_rule (words_of Rules (drop l.place (rows_at l.text.text l.later))))
    ≡ some_then (until_rule (words_of Rules (rows_at l.text.text l.later)))
