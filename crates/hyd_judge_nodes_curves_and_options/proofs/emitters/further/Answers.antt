use Rattle.std.proofs.Common.{sym, ◌∙◌}
use Rattle.hyd_spec_lines.specs.declared.line.Line.{Line}
use Rattle.hyd_spec_lines.specs.declared.section.Section.TheVariants.{Junctions}
use Rattle.hyd_spec_input.specs.SectionsAndTables.{node_rows}
use Rattle.hyd_rows_and_tables.specs.RowsOfLines.{rows_at}
use Rattle.hyd_rows_and_tables.proofs.FirstWrongRowLemmas.{row_at}
use Rattle.hyd_rows_and_tables.proofs.TableLemmas.{even}
use Rattle.hyd_judge_nodes_curves_and_options.proofs.EmitterLemmas.{emitter_is_right, skip_row, add_row}
use Rattle.hyd_judge_nodes_curves_and_options.proofs.emitters.further.Goals as goal

nothing : Line
nothing = record { number = 0; section = Junctions; from = 0; to = 0 }

pub returns-then-not-is_emitters : goal.returns-then-not-is_emitters
unfolding nothing
returns-then-not-is_emitters c =
    let text = c.args.text.now.text in
    let lines = c.args.lines.now in
    skip_row (rows_at text lines) c.args.place _ c.args.found c.requires.found
    (row_at text lines c.args.place nothing c.requires.within) (sym c.is_emitters.ensures ∙ c.if-not-is_emitters.true)

pub emitter_fault-cause-requires-clause-right : goal.emitter_fault-cause-requires-clause-right
unfolding nothing
emitter_fault-cause-requires-clause-right c =
    let text = c.args.text.now.text in
    let lines = c.args.lines.now in
    emitter_is_right (rows_at text lines) c.args.place _ c.requires.right
    (row_at text lines c.args.place nothing c.requires.within) (sym c.is_emitters.ensures ∙ c.if-not-is_emitters.false)

pub emitter_fault-cause-requires-clause-even : goal.emitter_fault-cause-requires-clause-even
emitter_fault-cause-requires-clause-even c =
    even c.args.text.now.text (node_rows (rows_at c.args.text.now.text c.args.lines.now))
    c.args.nodes.now.names c.args.nodes.now.firsts.items c.requires.nodes

pub returns : goal.returns
unfolding nothing
returns c =
    let text = c.args.text.now.text in
    let lines = c.args.lines.now in
    let rows = rows_at text lines in
    rw c.kept.ensures (add_row rows c.args.place _ c.args.found c.args.unit c.emitter_fault-cause.result
    c.requires.found (row_at text lines c.args.place nothing c.requires.within)
    (sym c.is_emitters.ensures ∙ c.if-not-is_emitters.false) c.requires.unit
    (c.emitter_fault-cause.ensures rows c.requires.nodes))
