use Rattle.std.proofs.Common.{sym, ◌∙◌, refl}
use Rattle.hyd_spec_lines.specs.declared.line.Line.{Line}
use Rattle.hyd_spec_lines.specs.declared.section.Section.TheVariants.{Junctions, Patterns}
use Rattle.hyd_spec_input.specs.SectionsAndTables.{node_rows, rows_of}
use Rattle.hyd_rows_and_tables.specs.RowsOfLines.{rows_at}
use Rattle.hyd_rows_and_tables.proofs.FirstWrongRowLemmas.{row_at}
use Rattle.hyd_rows_and_tables.proofs.TableLemmas.{even}
use Rattle.hyd_judge_nodes_curves_and_options.proofs.DemandLemmas.{demand_is_right, skip_row, add_row}
use Rattle.hyd_judge_nodes_curves_and_options.proofs.demands.Demands.add.Goals as goal

nothing : Line
nothing = record { number = 0; section = Junctions; from = 0; to = 0 }

pub returns-then-not-is_demands : goal.returns-then-not-is_demands
unfolding nothing
returns-then-not-is_demands c =
    let text = c.args.text.now.text in
    let lines = c.args.lines.now in
    skip_row (rows_at text lines) c.args.place _ c.args.self.now c.requires.judged
    (row_at text lines c.args.place nothing c.requires.within) (sym c.is_demands.ensures ∙ c.if-not-is_demands.true)

pub demand_fault-cause-requires-clause-right : goal.demand_fault-cause-requires-clause-right
unfolding nothing
demand_fault-cause-requires-clause-right c =
    let text = c.args.text.now.text in
    let lines = c.args.lines.now in
    demand_is_right (rows_at text lines) c.args.place _ c.requires.right
    (row_at text lines c.args.place nothing c.requires.within) (sym c.is_demands.ensures ∙ c.if-not-is_demands.false)

pub demand_fault-cause-requires-clause-even_nodes : goal.demand_fault-cause-requires-clause-even_nodes
demand_fault-cause-requires-clause-even_nodes c =
    even c.args.text.now.text (node_rows (rows_at c.args.text.now.text c.args.lines.now))
    c.args.nodes.now.names c.args.nodes.now.firsts.items c.requires.nodes

pub demand_fault-cause-requires-clause-even_patterns : goal.demand_fault-cause-requires-clause-even_patterns
demand_fault-cause-requires-clause-even_patterns c =
    even c.args.text.now.text (rows_of Patterns (rows_at c.args.text.now.text c.args.lines.now))
    c.args.patterns.now.names c.args.patterns.now.firsts.items c.requires.patterns

pub returns : goal.returns
unfolding nothing
returns c =
    let text = c.args.text.now.text in
    let lines = c.args.lines.now in
    let rows = rows_at text lines in
    add_row rows c.args.place _ c.args.self.now _ c.args.unit c.demand_fault-cause.result c.requires.judged
    (row_at text lines c.args.place nothing c.requires.within) (sym c.is_demands.ensures ∙ c.if-not-is_demands.false)
    c.requires.unit refl (c.demand_fault-cause.ensures rows c.requires.nodes c.requires.patterns) c.kept-self.ensures
