use Rattle.std.proofs.Common.{◌≡◌, None}
use Rattle.std.specs.Prelude.{codes}
use Rattle.hyd_spec_lines.specs.declared.section.Section.TheVariants.{Options}
use Rattle.hyd_spec_input.specs.Columns.{needed, number}
use Rattle.hyd_spec_input.specs.OptionsAndTimesInForce.{begins}
use Rattle.hyd_rows_and_tables.specs.RowsOfLines.{rows_at}
use Rattle.hyd_build_nodes_patterns_and_options.proofs.LinesInForce.{of_line, required_right}
use Rattle.hyd_build_nodes_patterns_and_options.proofs.RightRows.{right_rows}
use Rattle.hyd_build_nodes_patterns_and_options.proofs.options.required_pressure.Goals as goal

pub number_or-requires-clause-right : goal.number_or-requires-clause-right
number_or-requires-clause-right c =
    let text = c.args.text.now.text in
    let lines = c.args.lines.now in
    of_line text lines Options (begins (codes "REQUIRED")) (λ words. needed number 2 words
    ≡ None) c.last_line-line.result
    c.last_line-line.ensures.last (λ row found. required_right (rows_at text lines) row
    (right_rows text lines c.requires.by_itself c.requires.with_others) found)
