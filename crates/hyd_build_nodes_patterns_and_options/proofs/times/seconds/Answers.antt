use Rattle.std.proofs.Common.{◌≡◌, None}
use Rattle.hyd_spec_lines.specs.declared.section.Section.TheVariants.{Times}
use Rattle.hyd_spec_input.specs.OptionsAndTimesInForce.{begins_both}
use Rattle.hyd_spec_input.specs.TimesAndClockTimes.{time}
use Rattle.hyd_rows_and_tables.specs.RowsOfLines.{rows_at}
use Rattle.hyd_build_nodes_patterns_and_options.proofs.LinesInForce.{of_line, seconds_right}
use Rattle.hyd_build_nodes_patterns_and_options.proofs.RightRows.{right_rows}
use Rattle.hyd_build_nodes_patterns_and_options.proofs.times.seconds.Goals as goal

pub seconds_or-requires-clause-right : goal.seconds_or-requires-clause-right
seconds_or-requires-clause-right c =
    let text = c.args.text.now.text in
    let lines = c.args.lines.now in
    of_line text lines Times (begins_both c.args.key.now c.args.second.now) (λ words. time 0 2 words
    ≡ None) c.last_line-line.result c.last_line-line.ensures.last
    (λ row found. seconds_right (rows_at text lines) c.args.key.now c.args.second.now row
    (right_rows text lines c.requires.by_itself c.requires.with_others) c.requires.gives found)
