use Rattle.std.proofs.Common.{arith}
use Rattle.std.proofs.lemmas.List.{length-map}
use Rattle.hyd_spec_lines.specs.Lines.{row_of}
use Rattle.hyd_rows_and_tables.specs.RowsOfLines.{rows_at}
use Rattle.hyd_build_links_controls_and_rules.proofs.RuleLists.{rules_end}
use Rattle.hyd_build_links_controls_and_rules.proofs.rules.build_rules.Goals as goal

pub returns : goal.returns
returns c =
    let text = c.args.text.now.text in
    let lines = c.args.lines.now in
    rules_end (rows_at text lines) c.loop-place.place c.loop-place.list.list c.loop-place.invariant
    (omega (arith, c.loop-place-test.false, length-map lines (row_of text)))
