use Rattle.std.proofs.Common.{sym, ◌∙◌}
use Rattle.hyd_spec_lines.specs.declared.line.Line.{Line}
use Rattle.hyd_spec_lines.specs.declared.section.Section.TheVariants.{Junctions, Reservoirs}
use Rattle.hyd_spec_input.specs.Project.{IsReservoir}
use Rattle.hyd_rows_and_tables.specs.RowsOfLines.{rows_at}
use Rattle.hyd_rows_and_tables.proofs.FirstWrongRowLemmas.{row_at}
use Rattle.hyd_build_nodes_patterns_and_options.proofs.RowsWithoutFault.{alone, built_more, built_same}
use Rattle.hyd_build_nodes_patterns_and_options.proofs.ReservoirLemmas.{reservoir_is, head_is_small}
use Rattle.hyd_build_nodes_patterns_and_options.proofs.reservoirs.add_row.Goals as goal

nothing : Line
nothing = record { number = 0; section = Junctions; from = 0; to = 0 }

pub returns-then-not-is_reservoirs : goal.returns-then-not-is_reservoirs
unfolding nothing
returns-then-not-is_reservoirs c =
    let rows = rows_at c.args.text.now.text c.args.lines.now in
    built_same Reservoirs (IsReservoir rows) rows c.args.place _ c.args.list.now.list c.requires.built
    (row_at c.args.text.now.text c.args.lines.now c.args.place nothing c.requires.within)
    (sym c.is_reservoirs.ensures ∙ c.if-not-is_reservoirs.true)

pub reservoir_of-requires-clause-right : goal.reservoir_of-requires-clause-right
unfolding nothing
reservoir_of-requires-clause-right c =
    let rows = rows_at c.args.text.now.text c.args.lines.now in
    alone Reservoirs rows c.args.place _ c.requires.by_itself
    (row_at c.args.text.now.text c.args.lines.now c.args.place nothing c.requires.within)
    (sym c.is_reservoirs.ensures ∙ c.if-not-is_reservoirs.false)

pub reservoir_of-requires-clause-head : goal.reservoir_of-requires-clause-head
unfolding nothing
reservoir_of-requires-clause-head c =
    let rows = rows_at c.args.text.now.text c.args.lines.now in
    head_is_small rows c.args.place _ c.args.unit c.requires.with_others
    (row_at c.args.text.now.text c.args.lines.now c.args.place nothing c.requires.within)
    (sym c.is_reservoirs.ensures ∙ c.if-not-is_reservoirs.false) c.requires.unit

pub returns : goal.returns
unfolding nothing
returns c =
    let rows = rows_at c.args.text.now.text c.args.lines.now in
    built_more Reservoirs (IsReservoir rows) rows c.args.place _ c.args.list.now.list _ c.reservoir_of.result
    c.requires.built (row_at c.args.text.now.text c.args.lines.now c.args.place nothing c.requires.within)
    (sym c.is_reservoirs.ensures ∙ c.if-not-is_reservoirs.false)
    (reservoir_is rows _ c.reservoir_of.result c.args.unit c.args.patterns.now c.requires.unit c.requires.patterns
    c.reservoir_of.ensures) c.in_ok-push.ensures.ok
