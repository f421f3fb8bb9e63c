use Rattle.std.proofs.Common.{[], ◌++◌}
use Rattle.hyd_spec_lines.specs.declared.section.Section.TheVariants.{Pipes, Pumps}
use Rattle.hyd_spec_input.specs.SectionsAndTables.{rows_of}
use Rattle.hyd_build_links_controls_and_rules.specs.RowsToBuildLinksFrom.{rows_from}
use Rattle.hyd_build_links_controls_and_rules.proofs.links.build_links.Goals as goal

pub returns : goal.returns
returns c =
    let rows = rows_from c.args.text.now.text c.args.given.now in
    c.in_ok-add_section-3.ensures (rows_of Pipes rows ++ rows_of Pumps rows)
    (c.in_ok-add_section-2.ensures (rows_of Pipes rows)
    (c.in_ok-add_section.ensures [] (rw c.in_ok-links.ensures.empty tt)))
