use Rattle.std.proofs.Common.{take, sym, ◌∙◌, refl}
use Rattle.hyd_spec_lines.specs.declared.line.Line.{Line}
use Rattle.hyd_spec_lines.specs.declared.section.Section.TheVariants.{Junctions, Curves, Patterns}
use Rattle.hyd_spec_input.specs.SectionsAndTables.{node_rows, link_rows, rows_of}
use Rattle.hyd_rows_and_tables.specs.RowsOfLines.{rows_at}
use Rattle.hyd_rows_and_tables.proofs.FirstWrongRowLemmas.{row_at}
use Rattle.hyd_rows_and_tables.proofs.TableLemmas.{even}
use Rattle.hyd_judge_links_controls_and_rules.proofs.LinkLemmas.{link_is_right, skip_row, add_row}
use Rattle.hyd_judge_links_controls_and_rules.proofs.links.Links.add.Goals as goal

nothing : Line
nothing = record { number = 0; section = Junctions; from = 0; to = 0 }

pub returns-then-not-is_link : goal.returns-then-not-is_link
unfolding nothing
returns-then-not-is_link c =
    let text = c.args.text.now.text in
    let lines = c.args.lines.now in
    skip_row text (rows_at text lines) c.args.place _ c.args.self.now c.requires.judged
    (row_at text lines c.args.place nothing c.requires.within) (sym c.is_link.ensures ∙ c.if-not-is_link.true)

pub link_fault-cause-requires-clause-right : goal.link_fault-cause-requires-clause-right
unfolding nothing
link_fault-cause-requires-clause-right c =
    let text = c.args.text.now.text in
    let lines = c.args.lines.now in
    rw c.requires.tables.by_power_is (link_is_right (rows_at text lines) c.args.place _ c.requires.right
    (row_at text lines c.args.place nothing c.requires.within))

pub link_fault-cause-requires-clause-even : goal.link_fault-cause-requires-clause-even
link_fault-cause-requires-clause-even c =
    let text = c.args.text.now.text in
    let rows = rows_at text c.args.lines.now in
    let tables = c.args.tables.now in
    record {
      nodes = even text (node_rows rows) tables.nodes.now.names tables.nodes.now.firsts.items c.requires.tables.nodes;
      curves = even text (rows_of Curves rows) tables.curves.now.names tables.curves.now.firsts.items
          c.requires.tables.curves;
      patterns = even text (rows_of Patterns rows) tables.patterns.now.table.names
          tables.patterns.now.table.firsts.items c.requires.tables.patterns.table;
    }

pub returns : goal.returns
unfolding nothing
returns c =
    let text = c.args.text.now.text in
    let lines = c.args.lines.now in
    let rows = rows_at text lines in
    let done = link_rows (take c.args.place rows) in
    add_row text rows c.args.place _ c.args.self.now _ c.args.tables.now.unit c.in_ok-new.new c.link_fault-cause.result
    c.requires.judged (row_at text lines c.args.place nothing c.requires.within)
    (sym c.is_link.ensures ∙ c.if-not-is_link.false) c.requires.tables.unit_is refl
    (c.in_ok-new.ensures.table done c.requires.judged.table) c.in_ok-new.ensures.longer
    (c.in_ok-new.ensures.new done c.requires.judged.table) (c.link_fault-cause.ensures rows c.requires.tables)
    c.kept-self.ensures
