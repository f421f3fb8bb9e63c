use Rattle.std.proofs.Common.{◌≡◌, true, get_or, sym, ap, ◌∙◌, subst, arith}
use Rattle.std.proofs.lemmas.List.{length-map}
use Rattle.hyd_spec_lines.specs.Lines.{Row, row_of}
use Rattle.hyd_spec_lines.specs.declared.line.Line.{Line}
use Rattle.hyd_spec_lines.specs.declared.section.Section.TheVariants.{Junctions}
use Rattle.hyd_spec_input.specs.Project.{IsAction}
use Rattle.hyd_spec_input.specs.RuleRows.{begins_with, is_rule, stage_by}
use Rattle.hyd_rows_and_tables.specs.RowsOfLines.{rows_at}
use Rattle.hyd_rows_and_tables.proofs.FirstWrongRowLemmas.{row_at}
use Rattle.hyd_build_links_controls_and_rules.specs.RightRowsOfCommands.{IsRightAction}
use Rattle.hyd_build_links_controls_and_rules.specs.Rules.{is_of_branch, stage_at}
use Rattle.hyd_build_links_controls_and_rules.proofs.RightParts.{right_branch}
use Rattle.hyd_build_links_controls_and_rules.proofs.RuleLists.{parts_skip, parts_less, parts_more, parts_before_rule}
use Rattle.hyd_build_links_controls_and_rules.proofs.RuleLists.{parts_at_end}
use Rattle.hyd_build_links_controls_and_rules.proofs.rule_parts.actions_of.Goals as goal

nothing : Line
nothing = record { number = 0; section = Junctions; from = 0; to = 0 }

pub loop-place-preserved-then-not-is_rules : goal.loop-place-preserved-then-not-is_rules
unfolding nothing
loop-place-preserved-then-not-is_rules c =
    let text = c.args.text.now.text in
    let lines = c.args.lines.now in
    let rows = rows_at text lines in
    parts_skip (is_of_branch c.args.branch) (IsAction rows) rows c.args.from c.loop-place.place _ c.loop-place.stage
    c.loop-place.list.list
    c.loop-place.invariant (row_at text lines c.loop-place.place nothing c.loop-place-test.true)
    (sym c.is_rules.ensures ∙ c.if-not-is_rules.true)

pub returns-then-is_rule : goal.returns-then-is_rule
unfolding nothing
returns-then-is_rule c =
    let text = c.args.text.now.text in
    let lines = c.args.lines.now in
    let rows = rows_at text lines in
    parts_before_rule (is_of_branch c.args.branch) (IsAction rows) rows c.args.from c.loop-place.place _
    c.loop-place.stage c.loop-place.list.list c.loop-place.invariant
    (row_at text lines c.loop-place.place nothing c.loop-place-test.true)
    (sym c.is_rules.ensures ∙ c.if-not-is_rules.false)
    (ap is_rule (sym c.first_word-first.ensures) ∙ sym c.is_rule.ensures ∙ c.if-is_rule.true)

pub loop-place-preserved-then-not-is_of_branch : goal.loop-place-preserved-then-not-is_of_branch
unfolding nothing
loop-place-preserved-then-not-is_of_branch c =
    let text = c.args.text.now.text in
    let lines = c.args.lines.now in
    let rows = rows_at text lines in
    parts_less (is_of_branch c.args.branch) (IsAction rows) rows c.args.from c.loop-place.place _ c.loop-place.stage _
    c.loop-place.list.list c.loop-place.invariant
    (row_at text lines c.loop-place.place nothing c.loop-place-test.true)
    (sym c.is_rules.ensures ∙ c.if-not-is_rules.false)
    (ap is_rule (sym c.first_word-first.ensures) ∙ sym c.is_rule.ensures ∙ c.if-is_rule.false)
    (c.stage_by-stage.ensures ∙ ap (stage_by c.loop-place.stage) c.first_word-first.ensures)
    (sym c.is_of_branch.ensures ∙ c.if-not-is_of_branch.true)

pub action_of-requires-clause-right : goal.action_of-requires-clause-right
unfolding nothing
action_of-requires-clause-right c = λ row is.
    let text = c.args.text.now.text in
    let lines = c.args.lines.now in
    let rows = rows_at text lines in
    let here = row_of text (get_or lines c.loop-place.place nothing) in
    let at = row_at text lines c.loop-place.place nothing c.loop-place-test.true in
    let same : here ≡ row = cc in
    let of : is_of_branch c.args.branch (stage_by (stage_at rows c.loop-place.place) (begins_with here.words)) ≡ true =
    ap (λ s. is_of_branch c.args.branch (stage_by s (begins_with here.words))) (sym c.loop-place.invariant.stage_is)
    ∙ ap (λ o. is_of_branch c.args.branch (stage_by c.loop-place.stage o)) (sym c.first_word-first.ensures)
    ∙ ap (is_of_branch c.args.branch) (sym c.stage_by-stage.ensures) ∙ sym c.is_of_branch.ensures
    ∙ c.if-not-is_of_branch.false in
    subst (λ (r : Row). IsRightAction rows r.words) same
    (right_branch rows c.loop-place.place here c.args.branch c.requires.by_itself c.requires.with_others at
    (sym c.is_rules.ensures ∙ c.if-not-is_rules.false) of)

pub loop-place-preserved : goal.loop-place-preserved
unfolding nothing
loop-place-preserved c =
    let text = c.args.text.now.text in
    let lines = c.args.lines.now in
    let rows = rows_at text lines in
    let here = row_of text (get_or lines c.loop-place.place nothing) in
    let at = row_at text lines c.loop-place.place nothing c.loop-place-test.true in
    parts_more (is_of_branch c.args.branch) (IsAction rows) rows c.args.from c.loop-place.place here
    c.loop-place.stage _ c.loop-place.list.list _ c.action_of.result c.loop-place.invariant at
    (sym c.is_rules.ensures ∙ c.if-not-is_rules.false)
    (ap is_rule (sym c.first_word-first.ensures) ∙ sym c.is_rule.ensures ∙ c.if-is_rule.false)
    (c.stage_by-stage.ensures ∙ ap (stage_by c.loop-place.stage) c.first_word-first.ensures)
    (sym c.is_of_branch.ensures ∙ c.if-not-is_of_branch.false) (c.action_of.ensures here at) c.in_ok-push.ensures.ok

pub returns : goal.returns
returns c =
    let text = c.args.text.now.text in
    let lines = c.args.lines.now in
    let rows = rows_at text lines in
    parts_at_end (is_of_branch c.args.branch) (IsAction rows) rows c.args.from c.loop-place.place c.loop-place.stage
    c.loop-place.list.list
    c.loop-place.invariant (omega (arith, c.loop-place-test.false, length-map lines (row_of text)))
