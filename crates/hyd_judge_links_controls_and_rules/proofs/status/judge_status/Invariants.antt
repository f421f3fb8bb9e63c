use Rattle.hyd_spec_lines.specs.declared.section.Section.TheVariants.{Status}
use Rattle.hyd_rows_and_tables.specs.FirstWrongRow.{HasFound}
use Rattle.hyd_rows_and_tables.specs.RowsOfLines.{rows_at}
use Rattle.hyd_rows_and_tables.specs.WrongInSection.{IsWrongIn}
use Rattle.hyd_judge_links_controls_and_rules.proofs.status.judge_status.Given as goal

abbrev pub invariant-loop-place : goal.invariant-loop-place
invariant-loop-place l =
    HasFound (rows_at l.text.text l.lines) (IsWrongIn Status (rows_at l.text.text l.lines)) l.place l.found
