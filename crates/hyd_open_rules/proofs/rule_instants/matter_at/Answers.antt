use Rattle.hyd_period_length.proofs.WhatRulesBringAbout.{all_stay}
use Rattle.hyd_open_rules.proofs.WhatRulesBring.{idle, have_acted}
use Rattle.hyd_open_rules.proofs.rule_instants.matter_at.Goals as goal

pub returns-in-Err-clause-some : goal.returns-in-Err-clause-some
returns-in-Err-clause-some c = c.in-Err.ensures.open

pub returns-then-changes_any-clause-some : goal.returns-then-changes_any-clause-some
returns-then-changes_any-clause-some c = λ grid standing row started open_by read.
    have_acted c.args.project.now grid standing row c.args.facts.now c.args.seconds started c.try_over.new.values
    (c.in_default.ensures.decided grid standing row started open_by read) c.args.links.now c.requires.links
    c.args.facts.now.changes.list c.changes_any.new.changes.list c.changes_any.new.links
    (c.changes_any.ensures.some c.if-changes_any.true) c.changes_any.ensures.links c.changes_any.ensures.rows

pub returns-clause-none : goal.returns-clause-none
returns-clause-none c = λ grid standing row started open_by read.
    idle c.args.project.now grid standing row c.args.facts.now c.args.seconds started c.try_over.new.values
    (c.in_default.ensures.decided grid standing row started open_by read) c.args.links.now c.requires.links
    (c.changes_any.ensures.none c.if-changes_any.false)

pub returns-clause-facts_stay : goal.returns-clause-facts_stay
returns-clause-facts_stay c =
    all_stay c.args.facts.now c.changes_any.new.changes (c.changes_any.ensures.changes_stay c.if-changes_any.false)
