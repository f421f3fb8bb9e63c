use Rattle.hyd_spec_lines.specs.declared.section.Section.TheVariants.{Reservoirs}
use Rattle.hyd_spec_input.specs.Project.{IsReservoir}
use Rattle.hyd_rows_and_tables.specs.RowsOfLines.{rows_at}
use Rattle.hyd_build_nodes_patterns_and_options.proofs.RowsWithoutFault.{built_all}
use Rattle.hyd_build_nodes_patterns_and_options.proofs.reservoirs.build_reservoirs.Goals as goal

pub returns : goal.returns
returns c =
    built_all Reservoirs (IsReservoir (rows_at c.args.text.now.text c.args.lines.now)) c.args.text.now.text
    c.args.lines.now c.loop-place.place c.loop-place.list.list c.loop-place.invariant c.loop-place-test.false
