use Rattle.hyd_spec_lines.specs.Lines.{row_of}
use Rattle.hyd_spec_input.specs.Columns.{word}
use Rattle.hyd_spec_input.specs.FaultsWithOtherRows as others
use Rattle.hyd_theorems_on_input.proofs.RowsWithoutFault.{all_none}
use Rattle.hyd_theorems_on_input.proofs.Names.{ends_right}
use Rattle.hyd_build_links_controls_and_rules.specs.RowsToBuildLinksFrom.{rows_from}
use Rattle.hyd_build_links_controls_and_rules.proofs.NumberLemmas.{node_numbered}
use Rattle.hyd_build_links_controls_and_rules.proofs.RightRowsToBuildLinksFrom.{rows_for_links_are_right}
use Rattle.hyd_build_links_controls_and_rules.proofs.links.link_of.Goals as goal

pub number-requires : goal.number-requires
number-requires c =
    let text = c.args.text.now.text in
    let from = c.args.given.now in
    let rows = rows_from text from in
    let row = row_of text c.args.line.now in
    let k = c.requires.row.among.place in
    let each = all_none (others.ends_faults rows k row)
    (ends_right rows k row (rows_for_links_are_right text from c.requires.row.right) c.requires.row.among.is
    c.requires.row.of) in
    rw (c.requires.row.right.nodes, c.or_empty.ensures) (node_numbered rows (word 1 row.words) each.1.1.0)

pub number-requires-2 : goal.number-requires-2
number-requires-2 c =
    let text = c.args.text.now.text in
    let from = c.args.given.now in
    let rows = rows_from text from in
    let row = row_of text c.args.line.now in
    let k = c.requires.row.among.place in
    let each = all_none (others.ends_faults rows k row)
    (ends_right rows k row (rows_for_links_are_right text from c.requires.row.right) c.requires.row.among.is
    c.requires.row.of) in
    rw (c.requires.row.right.nodes, c.or_empty-2.ensures) (node_numbered rows (word 2 row.words) each.1.1.1.0)
