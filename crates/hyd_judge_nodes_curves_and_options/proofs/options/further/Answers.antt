use Rattle.std.proofs.Common.{sym, ◌∙◌}
use Rattle.hyd_spec_lines.specs.declared.line.Line.{Line}
use Rattle.hyd_spec_lines.specs.declared.section.Section.TheVariants.{Junctions}
use Rattle.hyd_rows_and_tables.specs.RowsOfLines.{rows_at}
use Rattle.hyd_rows_and_tables.proofs.FirstWrongRowLemmas.{row_at}
use Rattle.hyd_judge_nodes_curves_and_options.proofs.PressureRowLemmas.{bound_is_right, skip_row, add_row}
use Rattle.hyd_judge_nodes_curves_and_options.proofs.options.further.Goals as goal

nothing : Line
nothing = record { number = 0; section = Junctions; from = 0; to = 0 }

pub returns-then-not-is_options : goal.returns-then-not-is_options
unfolding nothing
returns-then-not-is_options c =
    let text = c.args.text.now.text in
    let lines = c.args.lines.now in
    skip_row (rows_at text lines) c.args.place _ c.args.found c.requires.found
    (row_at text lines c.args.place nothing c.requires.within) (sym c.is_options.ensures ∙ c.if-not-is_options.true)

pub option_fault-cause-requires-clause-right : goal.option_fault-cause-requires-clause-right
unfolding nothing
option_fault-cause-requires-clause-right c =
    let text = c.args.text.now.text in
    let lines = c.args.lines.now in
    bound_is_right (rows_at text lines) c.args.place _ c.requires.right
    (row_at text lines c.args.place nothing c.requires.within) (sym c.is_options.ensures ∙ c.if-not-is_options.false)

pub returns : goal.returns
unfolding nothing
returns c =
    let text = c.args.text.now.text in
    let lines = c.args.lines.now in
    let rows = rows_at text lines in
    rw c.kept.ensures (add_row rows c.args.place _ c.args.found c.args.unit c.args.pressures.now
    c.option_fault-cause.result c.requires.found (row_at text lines c.args.place nothing c.requires.within)
    (sym c.is_options.ensures ∙ c.if-not-is_options.false) c.requires.unit c.requires.pressures
    c.option_fault-cause.ensures)
