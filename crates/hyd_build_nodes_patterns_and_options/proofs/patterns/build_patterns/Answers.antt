use Rattle.std.proofs.Common.{arith}
use Rattle.std.proofs.lemmas.List.{length-map}
use Rattle.hyd_spec_lines.specs.Lines.{row_of}
use Rattle.hyd_rows_and_tables.specs.RowsOfLines.{rows_at}
use Rattle.hyd_build_nodes_patterns_and_options.proofs.PatternLemmas.{all_filled}
use Rattle.hyd_build_nodes_patterns_and_options.proofs.patterns.build_patterns.Goals as goal

pub returns : goal.returns
returns c =
    let text = c.args.text.now.text in
    let lines = c.args.lines.now in
    all_filled (rows_at text lines) c.loop-place.place c.loop-place.patterns.items c.in_ok-list.list.list
    c.loop-place.invariant (omega (arith, c.loop-place-test.false, length-map lines (row_of text)))
    c.in_ok-list.ensures
