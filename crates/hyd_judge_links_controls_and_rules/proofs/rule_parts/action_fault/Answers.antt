use Rattle.std.proofs.Common.{◌≡◌, None, Some, get_or, ap, ◌∙◌, subst}
use Rattle.hyd_spec_lines.specs.Lines.{Row, row_of}
use Rattle.hyd_spec_lines.specs.declared.line.Line.{Line}
use Rattle.hyd_spec_lines.specs.declared.section.Section.TheVariants.{Junctions}
use Rattle.hyd_spec_input.specs.CapacitiesOutOfRange.{IsRefusedSetting}
use Rattle.hyd_spec_input.specs.Columns.{asked, needed, word}
use Rattle.hyd_spec_input.specs.SectionsAndTables.{link_named}
use Rattle.hyd_spec_input.specs.FaultsWithOtherRows as others
use Rattle.hyd_rows_and_tables.specs.RowsOfLines.{rows_at}
use Rattle.hyd_rows_and_tables.specs.WrongInSection.{IsFaultThen}
use Rattle.hyd_rows_and_tables.proofs.FirstWrongRowLemmas.{row_at}
use Rattle.hyd_judge_links_controls_and_rules.proofs.PartLemmas.{action_asks, action_unknown, action_known}
use Rattle.hyd_judge_links_controls_and_rules.proofs.rule_parts.action_fault.Goals as goal

nothing : Line
nothing = record { number = 0; section = Junctions; from = 0; to = 0 }

pub returns-in_default : goal.returns-in_default
unfolding nothing
returns-in_default c =
    let text = c.args.text.now.text in
    let lines = c.args.lines.now in
    let here = row_of text (get_or lines c.args.place nothing) in
    let at = row_at text lines c.args.place nothing c.requires.within in
    let right : needed asked 5 here.words ≡ None = action_asks here.words (c.requires.by_itself here at) in
    let wrong : needed asked 5 here.words ≡ Some c.in_default.field-0 = c.in_default.ensures in
    absurd (let x : ⊥ = cc in x)

pub returns-in-Ok-named_link : goal.returns-in-Ok-named_link
unfolding nothing
returns-in-Ok-named_link c = λ row is.
    let text = c.args.text.now.text in
    let lines = c.args.lines.now in
    let rows = rows_at text lines in
    let here = row_of text (get_or lines c.args.place nothing) in
    let at = row_at text lines c.args.place nothing c.requires.within in
    let same : here ≡ row = cc in
    let line = c.requires.says here at in
    let link = c.in-Ok-named_link.ensures rows c.requires.links c.requires.right in
    let P : Row → Type 0 = λ r. IsFaultThen (others.action rows r.words)
    (IsRefusedSetting rows (link_named rows (word 2 r.words)) (word 5 r.words)) c.asked_fault.result in
    subst P same (action_known rows here.words c.args.action.now.object c.or_empty.result.now
    (row_of text c.in-Ok-named_link.link) c.asked_fault.result line.object
    (c.or_empty.ensures ∙ ap (λ k. word k here.words) line.link) link.0 link.1.named
    (c.asked_fault.ensures rows (word 5 here.words) c.requires.unit c.in-Ok.ensures.1))

pub returns-in-Err : goal.returns-in-Err
unfolding nothing
returns-in-Err c = λ row is.
    let text = c.args.text.now.text in
    let lines = c.args.lines.now in
    let rows = rows_at text lines in
    let here = row_of text (get_or lines c.args.place nothing) in
    let at = row_at text lines c.args.place nothing c.requires.within in
    let same : here ≡ row = cc in
    let line = c.requires.says here at in
    let P : Row → Type 0 = λ r. IsFaultThen (others.action rows r.words)
    (IsRefusedSetting rows (link_named rows (word 2 r.words)) (word 5 r.words)) (Some c.in-Err.cause) in
    subst P same (action_unknown rows here.words c.args.action.now.object c.or_empty.result.now c.in-Err.cause
    line.object
    (c.or_empty.ensures ∙ ap (λ k. word k here.words) line.link)
    (c.in-Err.ensures rows c.requires.links c.requires.right))
