use Rattle.std.proofs.Common.{◌≡◌, None, Some, get_or, sym, ◌∙◌}
use Rattle.hyd_spec_lines.specs.Lines.{row_of}
use Rattle.hyd_spec_lines.specs.declared.line.Line.{Line}
use Rattle.hyd_spec_lines.specs.declared.section.Section.TheVariants.{Junctions, Status}
use Rattle.hyd_spec_input.specs.Columns.{word}
use Rattle.hyd_spec_input.specs.DemandEmitterCurvePatternAndStatusRows as row_form
use Rattle.hyd_spec_input.specs.declared.LinkWord.TheVariants.{Link}
use Rattle.hyd_rows_and_tables.specs.RowsOfLines.{rows_at}
use Rattle.hyd_rows_and_tables.proofs.FirstWrongRowLemmas.{row_at}
use Rattle.hyd_judge_links_controls_and_rules.proofs.CommandLemmas.{command_unknown, command_known, none_elsewhere}
use Rattle.hyd_judge_links_controls_and_rules.proofs.StatusLemmas.{status_is_right, status_verdict}
use Rattle.hyd_judge_links_controls_and_rules.proofs.status.status_fault.Goals as goal

nothing : Line
nothing = record { number = 0; section = Junctions; from = 0; to = 0 }

pub returns-then-not-is_status : goal.returns-then-not-is_status
unfolding nothing
returns-then-not-is_status c =
    let text = c.args.text.now.text in
    let lines = c.args.lines.now in
    none_elsewhere Status (rows_at text lines) c.args.place _ (row_at text lines c.args.place nothing c.requires.within)
    (sym c.is_status.ensures ∙ c.if-not-is_status.true)

pub returns-in_default : goal.returns-in_default
unfolding nothing
returns-in_default c =
    let text = c.args.text.now.text in
    let lines = c.args.lines.now in
    let right : row_form.status (row_of text (get_or lines c.args.place nothing)).words ≡ None =
    status_is_right (rows_at text lines) c.args.place _ c.requires.right
    (row_at text lines c.args.place nothing c.requires.within) (sym c.is_status.ensures ∙ c.if-not-is_status.false) in
    let wrong : row_form.status (row_of text (get_or lines c.args.place nothing)).words ≡ Some c.in_default.field-0 =
    c.in_default.ensures in
    absurd (let x : ⊥ = cc in x)

pub returns-in-Ok-named_link : goal.returns-in-Ok-named_link
unfolding nothing
returns-in-Ok-named_link c =
    let text = c.args.text.now.text in
    let lines = c.args.lines.now in
    let rows = rows_at text lines in
    let row = row_of text (get_or lines c.args.place nothing) in
    let found = c.in-Ok-named_link.ensures rows c.requires.links c.requires.right in
    status_verdict rows c.args.place row c.in-Ok.row.link.now c.asked_fault.result
    (row_at text lines c.args.place nothing c.requires.within) (sym c.is_status.ensures ∙ c.if-not-is_status.false)
    c.in-Ok.ensures.1.link
    (command_known rows (Some Link) c.in-Ok.row.link.now (word 1 row.words) _ c.asked_fault.result found.0 found.1.named
    (c.asked_fault.ensures rows (word 1 row.words) c.requires.unit c.in-Ok.ensures.1.to))

pub returns-in-Err : goal.returns-in-Err
unfolding nothing
returns-in-Err c =
    let text = c.args.text.now.text in
    let lines = c.args.lines.now in
    let rows = rows_at text lines in
    let row = row_of text (get_or lines c.args.place nothing) in
    status_verdict rows c.args.place row c.in-Ok.row.link.now (Some c.in-Err.cause)
    (row_at text lines c.args.place nothing c.requires.within) (sym c.is_status.ensures ∙ c.if-not-is_status.false)
    c.in-Ok.ensures.1.link
    (command_unknown rows (Some Link) c.in-Ok.row.link.now (word 1 row.words) c.in-Err.cause
    (c.in-Err.ensures rows c.requires.links c.requires.right))
