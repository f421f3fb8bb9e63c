use Rattle.std.proofs.Common.{sym, ap, ◌∙◌}
use Rattle.hyd_spec_input.specs.RuleRows.{is_rule, is_then}
use Rattle.hyd_network_rows.proofs.RuleLinesBehindLemmas.{other_row, next_rule, then_here, next_line}
use Rattle.hyd_network_rows.proofs.rules.has_then.Goals as goal

pub loop-place-preserved-then-not-is_rules : goal.loop-place-preserved-then-not-is_rules
loop-place-preserved-then-not-is_rules c =
    other_row c.args.text.now.text c.args.later.now c.loop-place.place _ c.loop-place-test.true
    (sym c.is_rules.ensures ∙ c.if-not-is_rules.true)
    ∙ c.loop-place.invariant

pub returns-then-is_rule : goal.returns-then-is_rule
returns-then-is_rule c =
    next_rule c.args.text.now.text c.args.later.now c.loop-place.place _ c.loop-place-test.true
    (sym c.is_rules.ensures ∙ c.if-not-is_rules.false)
    (ap is_rule (sym c.first_word-first.ensures) ∙ sym c.is_rule.ensures ∙ c.if-is_rule.true)
    ∙ c.loop-place.invariant

pub returns-then-is_then : goal.returns-then-is_then
returns-then-is_then c =
    then_here c.args.text.now.text c.args.later.now c.loop-place.place _ c.loop-place-test.true
    (sym c.is_rules.ensures ∙ c.if-not-is_rules.false)
    (ap is_rule (sym c.first_word-first.ensures) ∙ sym c.is_rule.ensures ∙ c.if-is_rule.false)
    (ap is_then (sym c.first_word-first.ensures) ∙ sym c.is_then.ensures ∙ c.if-is_then.true)
    ∙ c.loop-place.invariant

pub loop-place-preserved : goal.loop-place-preserved
loop-place-preserved c =
    next_line c.args.text.now.text c.args.later.now c.loop-place.place _ c.loop-place-test.true
    (sym c.is_rules.ensures ∙ c.if-not-is_rules.false)
    (ap is_rule (sym c.first_word-first.ensures) ∙ sym c.is_rule.ensures ∙ c.if-is_rule.false)
    (ap is_then (sym c.first_word-first.ensures) ∙ sym c.is_then.ensures ∙ c.if-is_then.false)
    ∙ c.loop-place.invariant
