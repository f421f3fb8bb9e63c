use Rattle.std.proofs.Common.{◌≡◌, Some, refl, sym, ◌∙◌}
use Rattle.hyd_spec_lines.specs.Lines.{row_of}
use Rattle.hyd_spec_input.specs.SectionsAndTables.{link_rows, row_with}
use Rattle.hyd_judge_links_controls_and_rules.proofs.RightLinks.{right_link}
use Rattle.hyd_judge_links_controls_and_rules.proofs.names_of_links_and_nodes.named_link.Goals as goal

pub returns-then-allows_link : goal.returns-then-allows_link
returns-then-allows_link c = λ rows table right.
    let row = row_of c.args.text.now.text c.in-Some.line in
    let named : row_with c.args.name.now (link_rows rows) ≡ Some row = c.in-Some.ensures.some (link_rows rows) table in
    let allowed = sym (c.allows_link.ensures row refl) ∙ c.if-allows_link.true in (
      rw (named, allowed) refl,
      record {
        named = named;
        lies = c.in-Some.ensures.lies (link_rows rows) table;
        right = right_link rows c.args.name.now row right named;
      },
    )
