use Rattle.std.proofs.Common.{take, sym, ◌∙◌, arith}
use Rattle.hyd_spec_lines.specs.declared.line.Line.{Line}
use Rattle.hyd_spec_lines.specs.declared.section.Section.TheVariants.{Junctions, Curves, Patterns}
use Rattle.hyd_spec_input.specs.SectionsAndTables.{node_rows, rows_of}
use Rattle.hyd_rows_and_tables.specs.RowsOfLines.{rows_at}
use Rattle.hyd_rows_and_tables.proofs.FirstWrongRowLemmas.{row_at}
use Rattle.hyd_rows_and_tables.proofs.TableLemmas.{even}
use Rattle.hyd_judge_nodes_curves_and_options.proofs.NodeLemmas.{node_is_right, skip_row, add_row}
use Rattle.hyd_judge_nodes_curves_and_options.proofs.nodes.Nodes.add.Goals as goal

nothing : Line
nothing = record { number = 0; section = Junctions; from = 0; to = 0 }

pub returns-then-not-is_node : goal.returns-then-not-is_node
unfolding nothing
returns-then-not-is_node c =
    let text = c.args.text.now.text in
    let lines = c.args.lines.now in
    skip_row text (rows_at text lines) c.args.place _ c.args.self.now c.requires.judged
    (row_at text lines c.args.place nothing c.requires.within) (sym c.is_node.ensures ∙ c.if-not-is_node.true)

pub node_fault-cause-requires-clause-right : goal.node_fault-cause-requires-clause-right
unfolding nothing
node_fault-cause-requires-clause-right c =
    let text = c.args.text.now.text in
    let lines = c.args.lines.now in
    node_is_right (rows_at text lines) c.args.place _ c.requires.right
    (row_at text lines c.args.place nothing c.requires.within)

pub node_fault-cause-requires-clause-even : goal.node_fault-cause-requires-clause-even
node_fault-cause-requires-clause-even c =
    let text = c.args.text.now.text in
    let rows = rows_at text c.args.lines.now in
    let tables = c.args.tables.now in
    record {
      patterns = even text (rows_of Patterns rows) tables.patterns.now.table.names
          tables.patterns.now.table.firsts.items
          c.requires.tables.patterns.table;
      curves = even text (rows_of Curves rows) tables.curves.now.names tables.curves.now.firsts.items
          c.requires.tables.curves;
    }

pub add-requires-2-clause-junctions : goal.add-requires-2-clause-junctions
add-requires-2-clause-junctions c = omega
    (arith, c.requires.judged.counts.few_junctions, c.requires.within, c.requires.few)

pub returns : goal.returns
unfolding nothing
returns c =
    let text = c.args.text.now.text in
    let lines = c.args.lines.now in
    let rows = rows_at text lines in
    let done = node_rows (take c.args.place rows) in
    add_row text rows c.args.place _ c.args.self.now _ c.args.tables.now.unit c.in_ok-new.new c.node_fault-cause.result
    c.requires.judged (row_at text lines c.args.place nothing c.requires.within)
    (sym c.is_node.ensures ∙ c.if-not-is_node.false) c.requires.tables.unit_is c.add-2.ensures
    (c.in_ok-new.ensures.table done c.requires.judged.table) c.in_ok-new.ensures.longer
    (c.in_ok-new.ensures.new done c.requires.judged.table) (c.node_fault-cause.ensures rows c.requires.tables)
    c.kept-self.ensures
