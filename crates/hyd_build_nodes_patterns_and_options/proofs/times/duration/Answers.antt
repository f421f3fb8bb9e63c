use Rattle.std.proofs.Common.{◌≡◌, None}
use Rattle.std.specs.Prelude.{codes}
use Rattle.hyd_spec_lines.specs.declared.section.Section.TheVariants.{Times}
use Rattle.hyd_spec_input.specs.OptionsAndTimesInForce.{begins}
use Rattle.hyd_spec_input.specs.TimesAndClockTimes.{time}
use Rattle.hyd_rows_and_tables.specs.RowsOfLines.{rows_at}
use Rattle.hyd_build_nodes_patterns_and_options.proofs.LinesInForce.{of_line, duration_right}
use Rattle.hyd_build_nodes_patterns_and_options.proofs.RightRows.{right_rows}
use Rattle.hyd_build_nodes_patterns_and_options.proofs.times.duration.Goals as goal

pub seconds_or-requires-clause-right : goal.seconds_or-requires-clause-right
seconds_or-requires-clause-right c =
    let text = c.args.text.now.text in
    let lines = c.args.lines.now in
    of_line text lines Times (begins (codes "DURATION")) (λ words. time 0 1 words
    ≡ None) c.last_line-line.result c.last_line-line.ensures.last
    (λ row found. duration_right (rows_at text lines) row
    (right_rows text lines c.requires.by_itself c.requires.with_others) found)
