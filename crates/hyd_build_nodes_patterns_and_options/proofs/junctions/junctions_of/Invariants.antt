use Rattle.std.proofs.Common.{take}
use Rattle.hyd_spec_lines.specs.declared.section.Section.TheVariants.{Junctions}
use Rattle.hyd_spec_input.specs.Project.{Match, IsJunction}
use Rattle.hyd_spec_input.specs.SectionsAndTables.{rows_of}
use Rattle.hyd_rows_and_tables.specs.RowsOfLines.{rows_at}
use Rattle.hyd_build_nodes_patterns_and_options.proofs.junctions.junctions_of.Given as goal

abbrev pub invariant-loop-place : goal.invariant-loop-place
invariant-loop-place l =
    Match (IsJunction (rows_at l.text.text l.lines)) (rows_of Junctions (take l.place (rows_at l.text.text l.lines)))
    l.list.list
