use Rattle.hyd_rows_and_tables.specs.RowsOfLines.{rows_at}
use Rattle.hyd_inp.proofs.build.build.Goals as goal

pub build_parts-requires-clause-numbers : goal.build_parts-requires-clause-numbers
build_parts-requires-clause-numbers c =
    c.numbers-numbers.ensures (rows_at c.args.text.now.text c.args.lines.now) c.in_ok-apart.ensures

pub returns : goal.returns
returns c =
    let rows = rows_at c.args.text.now.text c.args.lines.now in
    c.assemble.ensures rows _ (c.numbers-numbers.ensures rows c.in_ok-apart.ensures) c.in_ok-ids.ensures
    c.in_ok-parts.ensures c.options_in_force-options.ensures c.times_in_force-times.ensures
