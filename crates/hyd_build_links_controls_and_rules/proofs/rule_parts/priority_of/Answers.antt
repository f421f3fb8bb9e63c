use Rattle.std.proofs.Common.{sym, ap, ◌∙◌, arith}
use Rattle.std.proofs.lemmas.List.{length-map}
use Rattle.hyd_spec_lines.specs.Lines.{row_of}
use Rattle.hyd_spec_lines.specs.declared.line.Line.{Line}
use Rattle.hyd_spec_lines.specs.declared.section.Section.TheVariants.{Junctions}
use Rattle.hyd_spec_input.specs.MeaningsAcrossRows.{is_priority}
use Rattle.hyd_spec_input.specs.RuleRows.{is_rule}
use Rattle.hyd_rows_and_tables.specs.RowsOfLines.{rows_at}
use Rattle.hyd_rows_and_tables.proofs.FirstWrongRowLemmas.{row_at}
use Rattle.hyd_build_links_controls_and_rules.proofs.RightParts.{right_priority}
use Rattle.hyd_build_links_controls_and_rules.proofs.RuleLists.{priority_skip, priority_less, priority_here}
use Rattle.hyd_build_links_controls_and_rules.proofs.RuleLists.{priority_before_rule}
use Rattle.hyd_build_links_controls_and_rules.proofs.RuleLists.{priority_at_end}
use Rattle.hyd_build_links_controls_and_rules.proofs.rule_parts.priority_of.Goals as goal

nothing : Line
nothing = record { number = 0; section = Junctions; from = 0; to = 0 }

pub loop-place-preserved-then-not-is_rules : goal.loop-place-preserved-then-not-is_rules
unfolding nothing
loop-place-preserved-then-not-is_rules c =
    let text = c.args.text.now.text in
    let lines = c.args.lines.now in
    priority_skip (rows_at text lines) c.loop-place.place _
    (row_at text lines c.loop-place.place nothing c.loop-place-test.true)
    (sym c.is_rules.ensures ∙ c.if-not-is_rules.true)
    ∙ c.loop-place.invariant

pub returns-then-is_rule : goal.returns-then-is_rule
unfolding nothing
returns-then-is_rule c =
    let text = c.args.text.now.text in
    let lines = c.args.lines.now in
    priority_before_rule (rows_at text lines) c.loop-place.place _
    (row_at text lines c.loop-place.place nothing c.loop-place-test.true)
    (sym c.is_rules.ensures ∙ c.if-not-is_rules.false)
    (ap is_rule (sym c.first_word-first.ensures) ∙ sym c.is_rule.ensures ∙ c.if-is_rule.true)
    ∙ c.loop-place.invariant

pub billionths-requires-clause-there : goal.billionths-requires-clause-there
unfolding nothing
billionths-requires-clause-there c =
    let text = c.args.text.now.text in
    let lines = c.args.lines.now in
    right_priority (rows_at text lines) c.loop-place.place _ c.requires.by_itself
    (row_at text lines c.loop-place.place nothing c.loop-place-test.true)
    (sym c.is_rules.ensures ∙ c.if-not-is_rules.false)
    (ap is_priority (sym c.first_word-first.ensures) ∙ sym c.is_priority.ensures ∙ c.if-is_priority.true)

pub returns-then-is_priority : goal.returns-then-is_priority
unfolding nothing
returns-then-is_priority c =
    let text = c.args.text.now.text in
    let lines = c.args.lines.now in
    c.billionths.ensures
    ∙ priority_here (rows_at text lines) c.loop-place.place _
    (row_at text lines c.loop-place.place nothing c.loop-place-test.true)
    (sym c.is_rules.ensures ∙ c.if-not-is_rules.false)
    (ap is_rule (sym c.first_word-first.ensures) ∙ sym c.is_rule.ensures ∙ c.if-is_rule.false)
    (ap is_priority (sym c.first_word-first.ensures) ∙ sym c.is_priority.ensures ∙ c.if-is_priority.true)
    ∙ c.loop-place.invariant

pub loop-place-preserved : goal.loop-place-preserved
unfolding nothing
loop-place-preserved c =
    let text = c.args.text.now.text in
    let lines = c.args.lines.now in
    priority_less (rows_at text lines) c.loop-place.place _
    (row_at text lines c.loop-place.place nothing c.loop-place-test.true)
    (sym c.is_rules.ensures ∙ c.if-not-is_rules.false)
    (ap is_rule (sym c.first_word-first.ensures) ∙ sym c.is_rule.ensures ∙ c.if-is_rule.false)
    (ap is_priority (sym c.first_word-first.ensures) ∙ sym c.is_priority.ensures ∙ c.if-is_priority.false)
    ∙ c.loop-place.invariant

pub returns : goal.returns
returns c =
    let text = c.args.text.now.text in
    let lines = c.args.lines.now in
    priority_at_end (rows_at text lines) c.loop-place.place
    (omega (arith, c.loop-place-test.false, length-map lines (row_of text)))
    ∙ c.loop-place.invariant
