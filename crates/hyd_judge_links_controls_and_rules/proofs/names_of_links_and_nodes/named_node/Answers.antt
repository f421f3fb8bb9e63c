use Rattle.std.proofs.Common.{◌≡◌, Some, refl, sym, ◌∙◌}
use Rattle.hyd_spec_lines.specs.Lines.{row_of}
use Rattle.hyd_spec_input.specs.SectionsAndTables.{node_rows, row_with}
use Rattle.hyd_judge_links_controls_and_rules.proofs.names_of_links_and_nodes.named_node.Goals as goal

pub returns-then-allows_node : goal.returns-then-allows_node
returns-then-allows_node c = λ rows table.
    let row = row_of c.args.text.now.text c.in-Some.line in
    let named : row_with c.args.name.now (node_rows rows) ≡ Some row = c.in-Some.ensures.some (node_rows rows) table in
    let allowed = sym (c.allows_node.ensures row refl) ∙ c.if-allows_node.true in
    (rw (named, allowed) refl, record { named = named; lies = c.in-Some.ensures.lies (node_rows rows) table })
