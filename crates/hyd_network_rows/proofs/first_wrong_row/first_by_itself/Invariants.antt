use Rattle.std.proofs.Common.{◌≡◌, None, take}
use Rattle.hyd_spec_lines.specs.declared.section.Section.TheVariants.{Rules}
use Rattle.hyd_spec_input.specs.SingleRows.{IsWrongBy}
use Rattle.hyd_spec_input.specs.RuleRows.{stage_after}
use Rattle.hyd_spec_input.specs.SectionsAndTables.{words_of}
use Rattle.hyd_rows_and_tables.specs.FirstWrongRow.{HasFound}
use Rattle.hyd_rows_and_tables.specs.RowsOfLines.{rows_at}
use Rattle.hyd_network_rows.proofs.first_wrong_row.first_by_itself.Given as goal

abbrev pub invariant-loop-place : goal.invariant-loop-place
invariant-loop-place l = record {
  none : HasFound (rows_at l.text.text l.lines) (IsWrongBy l.by_power (rows_at l.text.text l.lines)) l.place None;
  stage : l.stage ≡ stage_after (words_of Rules (take l.place (rows_at l.text.text l.lines)));
}
