use Rattle.std.proofs.Common.{◌≡◌, None}
use Rattle.std.specs.Prelude.{codes}
use Rattle.hyd_spec_lines.specs.declared.section.Section.TheVariants.{Times}
use Rattle.hyd_spec_input.specs.OptionsAndTimesInForce.{begins_both}
use Rattle.hyd_spec_input.specs.TimesAndClockTimes.{clock}
use Rattle.hyd_rows_and_tables.specs.RowsOfLines.{rows_at}
use Rattle.hyd_build_nodes_patterns_and_options.proofs.LinesInForce.{of_line, start_right}
use Rattle.hyd_build_nodes_patterns_and_options.proofs.RightRows.{right_rows}
use Rattle.hyd_build_nodes_patterns_and_options.proofs.times.start_clock.Goals as goal

pub clock_or_0-requires-clause-right : goal.clock_or_0-requires-clause-right
clock_or_0-requires-clause-right c =
    let text = c.args.text.now.text in
    let lines = c.args.lines.now in
    of_line text lines Times (begins_both (codes "START") (codes "CLOCKTIME")) (λ words. clock 2 words
    ≡ None) c.last_line-line.result c.last_line-line.ensures.last
    (λ row found. start_right (rows_at text lines) row
    (right_rows text lines c.requires.by_itself c.requires.with_others) found)
