use Rattle.hyd_spec_lines.specs.declared.section.Section.TheVariants.{Junctions}
use Rattle.hyd_spec_input.specs.Project.{IsJunction}
use Rattle.hyd_rows_and_tables.specs.RowsOfLines.{rows_at}
use Rattle.hyd_build_nodes_patterns_and_options.proofs.RowsWithoutFault.{built_all}
use Rattle.hyd_build_nodes_patterns_and_options.proofs.junctions.junctions_of.Goals as goal

pub returns : goal.returns
returns c =
    built_all Junctions (IsJunction (rows_at c.args.text.now.text c.args.lines.now)) c.args.text.now.text
    c.args.lines.now c.loop-place.place c.loop-place.list.list c.loop-place.invariant c.loop-place-test.false
