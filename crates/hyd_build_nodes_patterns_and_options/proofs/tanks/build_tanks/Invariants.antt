use Rattle.std.proofs.Common.{take}
use Rattle.hyd_spec_lines.specs.declared.section.Section.TheVariants.{Tanks}
use Rattle.hyd_spec_input.specs.Project.{Match, IsTank}
use Rattle.hyd_spec_input.specs.SectionsAndTables.{rows_of}
use Rattle.hyd_rows_and_tables.specs.RowsOfLines.{rows_at}
use Rattle.hyd_build_nodes_patterns_and_options.proofs.tanks.build_tanks.Given as goal

abbrev pub invariant-loop-place : goal.invariant-loop-place
invariant-loop-place l =
    Match (IsTank (rows_at l.text.text l.lines)) (rows_of Tanks (take l.place (rows_at l.text.text l.lines)))
    l.list.list
