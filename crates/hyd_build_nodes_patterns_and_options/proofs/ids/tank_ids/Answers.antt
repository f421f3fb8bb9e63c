use Rattle.hyd_rows_and_tables.specs.RowsOfLines.{rows_at}
use Rattle.hyd_build_nodes_patterns_and_options.proofs.NameLemmas.{are_tank_ids}
use Rattle.hyd_build_nodes_patterns_and_options.proofs.RightRows.{right_rows}
use Rattle.hyd_build_nodes_patterns_and_options.proofs.ids.tank_ids.Goals as goal

pub returns : goal.returns
returns c = are_tank_ids (rows_at c.args.text.now.text c.args.lines.now) c.new-names.result c.add_section.new.names
    (right_rows c.args.text.now.text c.args.lines.now c.requires.by_itself c.requires.with_others)
    c.new-names.ensures.empty c.in_ok-add_section.ensures.names
