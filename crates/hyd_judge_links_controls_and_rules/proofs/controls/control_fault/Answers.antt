use Rattle.std.proofs.Common.{◌≡◌, None, Some, get_or, ap, sym, ◌∙◌, subst}
use Rattle.hyd_spec_lines.specs.Lines.{Row, row_of}
use Rattle.hyd_spec_lines.specs.declared.line.Line.{Line}
use Rattle.hyd_spec_lines.specs.declared.section.Section.TheVariants.{Junctions}
use Rattle.hyd_spec_input.specs.Columns.{word}
use Rattle.hyd_spec_input.specs.ControlRows as row_form
use Rattle.hyd_rows_and_tables.specs.RowsOfLines.{rows_at}
use Rattle.hyd_rows_and_tables.proofs.FirstWrongRowLemmas.{row_at}
use Rattle.hyd_judge_links_controls_and_rules.specs.Controls.{IsControlFault}
use Rattle.hyd_judge_links_controls_and_rules.proofs.ControlLemmas.{control_is_right, link_unknown, node_unknown}
use Rattle.hyd_judge_links_controls_and_rules.proofs.ControlLemmas.{both_known}
use Rattle.hyd_judge_links_controls_and_rules.proofs.controls.control_fault.Goals as goal

nothing : Line
nothing = record { number = 0; section = Junctions; from = 0; to = 0 }

pub returns-in_default : goal.returns-in_default
unfolding nothing
returns-in_default c =
    let text = c.args.text.now.text in
    let lines = c.args.lines.now in
    let at = row_at text lines c.args.place nothing c.requires.within in
    let right : row_form.control (row_of text (get_or lines c.args.place nothing)).words ≡ None =
    control_is_right (rows_at text lines) c.args.place _ c.requires.right at (c.requires.member _ at) in
    let wrong : row_form.control (row_of text (get_or lines c.args.place nothing)).words ≡ Some c.in_default.field-0 =
    c.in_default.ensures in
    absurd (let x : ⊥ = cc in x)

pub returns-in-Err : goal.returns-in-Err
unfolding nothing
returns-in-Err c = λ row is.
    let text = c.args.text.now.text in
    let lines = c.args.lines.now in
    let rows = rows_at text lines in
    let here = row_of text (get_or lines c.args.place nothing) in
    let at = row_at text lines c.args.place nothing c.requires.within in
    let same : here ≡ row = cc in
    let line = c.in-Ok.ensures.1 in
    let P : Row → Type 0 = λ r. IsControlFault rows c.args.count r (Some c.in-Err.cause) in
    subst P same (link_unknown rows c.args.count here c.in-Ok.control.object c.or_empty.result.now c.in-Err.cause
    (sym c.limit.ensures ∙ c.in_default-limit.is) line.object
    (c.or_empty.ensures ∙ ap (λ k. word k here.words) line.link)
    (c.in-Err.ensures rows c.requires.links c.requires.right))

pub returns-in-Ok-control_node : goal.returns-in-Ok-control_node
unfolding nothing
returns-in-Ok-control_node c = λ row is.
    let text = c.args.text.now.text in
    let lines = c.args.lines.now in
    let rows = rows_at text lines in
    let here = row_of text (get_or lines c.args.place nothing) in
    let at = row_at text lines c.args.place nothing c.requires.within in
    let same : here ≡ row = cc in
    let line = c.in-Ok.ensures.1 in
    let link = c.in-Ok-named_link.ensures rows c.requires.links c.requires.right in
    let node = c.in-Ok-control_node.ensures rows c.requires.nodes in
    let P : Row → Type 0 = λ r. IsControlFault rows c.args.count r c.commanded_fault.result in
    subst P same (both_known rows c.args.count here c.in-Ok.control.object c.or_empty.result.now
    (row_of text c.in-Ok-named_link.link) c.commanded_fault.result (sym c.limit.ensures ∙ c.in_default-limit.is)
    line.object (c.or_empty.ensures ∙ ap (λ k. word k here.words) line.link) link.0 link.1.named node.0
    (c.commanded_fault.ensures rows here c.requires.unit line node.1))

pub returns-in-Err-control_node : goal.returns-in-Err-control_node
unfolding nothing
returns-in-Err-control_node c = λ row is.
    let text = c.args.text.now.text in
    let lines = c.args.lines.now in
    let rows = rows_at text lines in
    let here = row_of text (get_or lines c.args.place nothing) in
    let at = row_at text lines c.args.place nothing c.requires.within in
    let same : here ≡ row = cc in
    let line = c.in-Ok.ensures.1 in
    let link = c.in-Ok-named_link.ensures rows c.requires.links c.requires.right in
    let P : Row → Type 0 = λ r. IsControlFault rows c.args.count r (Some c.in-Err-control_node.cause) in
    subst P same (node_unknown rows c.args.count here c.in-Ok.control.object c.or_empty.result.now
    c.in-Err-control_node.cause (sym c.limit.ensures ∙ c.in_default-limit.is) line.object
    (c.or_empty.ensures ∙ ap (λ k. word k here.words) line.link) link.0
    (c.in-Err-control_node.ensures rows c.requires.nodes))
