use Rattle.std.proofs.Common.{◌≡◌, ◌∙◌, ℕ, ◌+◌, ◌<◌, ◌≤◌, ap, arith}
use Rattle.hyd_period_facts.specs.declared.facts.Facts.{Facts}
use Rattle.hyd_period_length.proofs.WhatRulesBringAbout.{decided_so, unless_so}
use Rattle.hyd_period_length.proofs.EndByRulesOrWithout.{before_last, ends_brought, leaves_brought, changes_brought}
use Rattle.hyd_period_length.proofs.EndByRulesOrWithout.{ends_without}
use Rattle.hyd_period_length.proofs.EndByRulesOrWithout.{leaves_without, changes_without, decided_without}
use Rattle.hyd_period_length.proofs.EndByRulesOrWithout.{unless_without}
use Rattle.hyd_period_length.proofs.finding_the_end.find_end.Goals as goal

pub returns-in-Some-clause-ends : goal.returns-in-Some-clause-ends
returns-in-Some-clause-ends c = λ grid standing row started read.
    ends_brought c.args.project.now grid standing row c.ends_of-ends.result.earliest
    (c.ends_of-ends.ensures.earliest grid standing row started)
    (before_last _ _ _ started.time c.requires.before_end)
    c.args.facts.now.changes.list c.end_by_rules.new.facts.changes.list c.end_by_rules.new.links c.in-Some.ending
    (c.in-Some.ensures.some grid standing row started read)

pub returns-in-Some-clause-leaves : goal.returns-in-Some-clause-leaves
returns-in-Some-clause-leaves c = λ grid standing row started read.
    leaves_brought c.args.project.now grid standing row c.ends_of-ends.result.earliest
    (c.ends_of-ends.ensures.earliest grid standing row started)
    (before_last _ _ _ started.time c.requires.before_end)
    c.args.facts.now.changes.list c.end_by_rules.new.facts.changes.list c.end_by_rules.new.links c.in-Some.ending
    (c.in-Some.ensures.some grid standing row started read)

pub returns-in-Some-clause-changes : goal.returns-in-Some-clause-changes
returns-in-Some-clause-changes c = λ grid standing row started read.
    changes_brought c.args.project.now grid standing row c.ends_of-ends.result.earliest
    (c.ends_of-ends.ensures.earliest grid standing row started)
    (before_last _ _ _ started.time c.requires.before_end)
    c.args.facts.now.changes.list c.end_by_rules.new.facts.changes.list c.end_by_rules.new.links c.in-Some.ending
    (c.in-Some.ensures.some grid standing row started read)
    (unless_so (c.end_by_rules.new.facts ≡ c.args.facts.now)
    (c.end_by_rules.new.facts.changes.list ≡ c.args.facts.now.changes.list) c.in-Some.ending
    (λ e. ap (λ (f : Facts). f.changes.list) e) c.in-Some.ensures.open_facts)

pub returns-in-Some-clause-some : goal.returns-in-Some-clause-some
returns-in-Some-clause-some c =
    let last : ℕ = c.ends_of-ends.result.earliest in
    decided_so (λ s. (0 < s) × (s ≤ last)) (λ s. 0 < s) c.in-Some.ending (λ s p. p.0) c.in-Some.ensures.within

pub returns-in-Some-clause-within : goal.returns-in-Some-clause-within
returns-in-Some-clause-within c =
    let last : ℕ = c.ends_of-ends.result.earliest in
    let cap = c.ends_of-ends.ensures.within in
    decided_so (λ s. (0 < s) × (s ≤ last)) (λ s. c.args.facts.now.time + s ≤ c.args.project.now.times.duration)
    c.in-Some.ending (λ s p. let l = p.1 in omega (arith, l, cap)) c.in-Some.ensures.within

pub returns-clause-ends : goal.returns-clause-ends
returns-clause-ends c = λ grid standing row started read.
    ends_without c.args.project.now grid standing row c.ends_of-ends.result.earliest c.ends_of-ends.result.latest
    c.end_without_rules.result c.end_without_rules.ensures.decided c.end_without_rules.ensures.open
    (record {
      not_last = before_last _ _ _ started.time c.requires.before_end;
      is_earliest = c.ends_of-ends.ensures.earliest grid standing row started;
      none = c.in_default.ensures.none grid standing row started read;
    })
    (c.ends_of-ends.ensures.latest grid standing row started)

pub returns-clause-leaves : goal.returns-clause-leaves
returns-clause-leaves c = λ grid standing row started read.
    leaves_without c.args.project.now grid standing row c.ends_of-ends.result.earliest c.ends_of-ends.result.latest
    c.end_without_rules.result c.end_without_rules.ensures.decided c.end_without_rules.ensures.open
    (record {
      not_last = before_last _ _ _ started.time c.requires.before_end;
      is_earliest = c.ends_of-ends.ensures.earliest grid standing row started;
      none = c.in_default.ensures.none grid standing row started read;
    })
    (c.ends_of-ends.ensures.latest grid standing row started) c.end_by_rules.new.links
    (c.in_default.ensures.links_stay ∙ c.requires.links ∙ started.links)

pub returns-clause-changes : goal.returns-clause-changes
returns-clause-changes c = λ grid standing row started read.
    changes_without c.ends_of-ends.result.earliest c.ends_of-ends.result.latest c.end_without_rules.result
    c.end_without_rules.ensures.decided c.end_without_rules.ensures.open c.args.project.now grid standing row
    c.args.facts.now.changes.list c.end_by_rules.new.facts.changes.list
    (ap (λ (f : Facts). f.changes.list) c.in_default.ensures.facts_stay)

pub returns-clause-some : goal.returns-clause-some
returns-clause-some c =
    decided_without c.ends_of-ends.result.earliest c.ends_of-ends.result.latest c.end_without_rules.result
    c.end_without_rules.ensures.decided c.end_without_rules.ensures.open (λ s. 0 < s) c.ends_of-ends.ensures.some

pub returns-clause-within : goal.returns-clause-within
returns-clause-within c =
    decided_without c.ends_of-ends.result.earliest c.ends_of-ends.result.latest c.end_without_rules.result
    c.end_without_rules.ensures.decided c.end_without_rules.ensures.open
    (λ s. c.args.facts.now.time + s ≤ c.args.project.now.times.duration) c.ends_of-ends.ensures.within

pub returns-clause-facts_stay : goal.returns-clause-facts_stay
returns-clause-facts_stay c =
    unless_without c.ends_of-ends.result.earliest c.ends_of-ends.result.latest c.end_without_rules.result
    c.end_without_rules.ensures.decided c.end_without_rules.ensures.open
    (c.end_by_rules.new.facts ≡ c.args.facts.now) c.in_default.ensures.facts_stay

pub returns-clause-links_stay : goal.returns-clause-links_stay
returns-clause-links_stay c =
    unless_without c.ends_of-ends.result.earliest c.ends_of-ends.result.latest c.end_without_rules.result
    c.end_without_rules.ensures.decided c.end_without_rules.ensures.open
    (c.end_by_rules.new.links ≡ c.args.links.now) c.in_default.ensures.links_stay
