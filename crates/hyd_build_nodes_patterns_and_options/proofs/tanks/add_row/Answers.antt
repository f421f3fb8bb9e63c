use Rattle.std.proofs.Common.{sym, ◌∙◌}
use Rattle.hyd_spec_lines.specs.declared.line.Line.{Line}
use Rattle.hyd_spec_lines.specs.declared.section.Section.TheVariants.{Junctions, Tanks}
use Rattle.hyd_spec_input.specs.Project.{IsTank}
use Rattle.hyd_rows_and_tables.specs.RowsOfLines.{rows_at}
use Rattle.hyd_rows_and_tables.proofs.FirstWrongRowLemmas.{row_at}
use Rattle.hyd_build_nodes_patterns_and_options.proofs.RowsWithoutFault.{alone, built_same}
use Rattle.hyd_build_nodes_patterns_and_options.proofs.TankLemmas.{are_small, tank_more}
use Rattle.hyd_build_nodes_patterns_and_options.proofs.tanks.add_row.Goals as goal

nothing : Line
nothing = record { number = 0; section = Junctions; from = 0; to = 0 }

pub returns-then-not-is_tanks : goal.returns-then-not-is_tanks
unfolding nothing
returns-then-not-is_tanks c =
    let rows = rows_at c.args.text.now.text c.args.lines.now in
    built_same Tanks (IsTank rows) rows c.args.place _ c.args.list.now.list c.requires.built
    (row_at c.args.text.now.text c.args.lines.now c.args.place nothing c.requires.within)
    (sym c.is_tanks.ensures ∙ c.if-not-is_tanks.true)

pub push_tank-requires-clause-right : goal.push_tank-requires-clause-right
unfolding nothing
push_tank-requires-clause-right c =
    let rows = rows_at c.args.text.now.text c.args.lines.now in
    alone Tanks rows c.args.place _ c.requires.by_itself
    (row_at c.args.text.now.text c.args.lines.now c.args.place nothing c.requires.within)
    (sym c.is_tanks.ensures ∙ c.if-not-is_tanks.false)

pub push_tank-requires-clause-small : goal.push_tank-requires-clause-small
unfolding nothing
push_tank-requires-clause-small c =
    let rows = rows_at c.args.text.now.text c.args.lines.now in
    are_small rows c.args.place _ c.args.unit c.requires.by_itself c.requires.with_others
    (row_at c.args.text.now.text c.args.lines.now c.args.place nothing c.requires.within)
    (sym c.is_tanks.ensures ∙ c.if-not-is_tanks.false) c.requires.unit

pub returns : goal.returns
unfolding nothing
returns c =
    let rows = rows_at c.args.text.now.text c.args.lines.now in
    tank_more rows c.args.place _ c.args.unit c.args.shapes.now c.args.list.now.list _ c.requires.built
    (row_at c.args.text.now.text c.args.lines.now c.args.place nothing c.requires.within)
    (sym c.is_tanks.ensures ∙ c.if-not-is_tanks.false) c.requires.unit c.requires.shapes c.in_ok-push_tank.ensures
