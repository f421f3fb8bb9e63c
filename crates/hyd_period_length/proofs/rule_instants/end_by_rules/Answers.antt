use Rattle.std.proofs.Common.{◌≡◌, ◌∙◌, ℕ, ◌+◌, ◌%◌, ◌<◌, ◌≤◌, length, refl, ap, sym, subst, arith}
use Rattle.std.proofs.Math.Nat.{mod-lt}
use Rattle.hyd_spec_certificates.specs.Decided.{RulesMatter}
use Rattle.hyd_period_facts.specs.declared.facts.Facts.{Facts}
use Rattle.hyd_period_facts.specs.FactsBeforeEnd.{HaveTanks}
use Rattle.hyd_period_length.specs.Endings.{ForPeriod, IsBrought}
use Rattle.hyd_period_length.proofs.WhatRulesBringAbout.{keeps_all, decided_so, unless_so}
use Rattle.hyd_period_length.proofs.InstantsTriedSoFar.{next_multiple, walk_starts, walk_goes_on, walk_ends}
use Rattle.hyd_period_length.proofs.InstantsTriedSoFar.{walk_finds}
use Rattle.hyd_period_length.proofs.rule_instants.end_by_rules.Goals as goal
use Rattle.hyd_theorems_on_nesting.proofs.RuleInstants.{first_multiple}

pub loop-seconds-init : goal.loop-seconds-init
loop-seconds-init c =
    let some = c.requires.sound.times.rule in
    let time = c.args.facts.now.time in
    let step = c.args.project.now.times.rule in
    record {
      later =
          let past : time % step < step = mod-lt time some in
          omega (arith, past);
      multiple = first_multiple time step some;
      walked = walk_starts c.args.project.now c.args.facts.now c.args.low.now c.args.high.now c.args.flows.now some;
      facts = refl;
      links = refl;
      levels = omega arith;
    }

pub end_at-requires-clause-tanks : goal.end_at-requires-clause-tanks
end_at-requires-clause-tanks c =
    subst (HaveTanks c.args.project.now) (sym c.loop-seconds.invariant.facts) c.requires.tanks

pub end_at-requires-clause-time : goal.end_at-requires-clause-time
end_at-requires-clause-time c =
    let same = ap (λ (f : Facts). f.time) c.loop-seconds.invariant.facts in
    let time = c.requires.time in
    let test = c.loop-seconds-test.true in
    omega (arith, same, time, test)

pub end_at-requires-clause-links : goal.end_at-requires-clause-links
end_at-requires-clause-links c =
    c.loop-seconds.invariant.links ∙ c.requires.links
    ∙ sym (ap (λ (f : Facts). f.links.list) c.loop-seconds.invariant.facts)

pub end_at-requires-clause-levels : goal.end_at-requires-clause-levels
end_at-requires-clause-levels c =
    let kept = c.loop-seconds.invariant.levels in
    let room = c.requires.levels in
    omega (arith, kept, room)

pub end_at-requires-clause-changes : goal.end_at-requires-clause-changes
end_at-requires-clause-changes c =
    let same = ap (λ (f : Facts). f.changes.spare) c.loop-seconds.invariant.facts in
    let room = c.requires.changes in
    omega (arith, same, room)

pub loop-seconds-preserved : goal.loop-seconds-preserved
loop-seconds-preserved c =
    let project = c.args.project.now in
    let facts = c.args.facts.now in
    let low = c.args.low.now in
    let high = c.args.high.now in
    let flows = c.args.flows.now in
    let at : ℕ = c.loop-seconds.seconds in
    let was = c.loop-seconds.invariant in
    record {
      later = let l = was.later in omega (arith, l);
      multiple = next_multiple facts.time at project.times.rule was.multiple;
      walked = walk_goes_on project facts low high flows at was.multiple
          (subst (λ (f : Facts). ForPeriod project f low high flows
          (λ grid standing row. RulesMatter project grid standing row at → ⊥)) was.facts c.in_default.ensures.none)
          was.walked;
      facts = c.in_default.ensures.facts_stay ∙ was.facts;
      links = c.in_default.ensures.links_stay ∙ was.links;
      levels =
          let kept = was.levels in
          let more = c.end_at.ensures.levels in
          omega (arith, kept, more);
    }

pub returns-in-Some-clause-some : goal.returns-in-Some-clause-some
returns-in-Some-clause-some c =
    let project = c.args.project.now in
    let facts = c.args.facts.now in
    let low = c.args.low.now in
    let high = c.args.high.now in
    let flows = c.args.flows.now in
    let at : ℕ = c.loop-seconds.seconds in
    let was = c.loop-seconds.invariant in
    let after = c.end_at.new.facts.changes.list in
    let links = c.end_at.new.links in
    walk_finds project facts low high flows at c.args.last facts.changes.list after links c.in-Some.ending was.later
    was.multiple c.loop-seconds-test.true was.walked
    (subst (λ (f : Facts). ForPeriod project f low high flows
    (λ grid standing row. IsBrought project grid standing row at f.changes.list after links c.in-Some.ending)) was.facts
    c.in-Some.ensures.some)

pub returns-in-Some-clause-within : goal.returns-in-Some-clause-within
returns-in-Some-clause-within c =
    let test = c.loop-seconds-test.true in
    let at : ℕ = c.loop-seconds.seconds in
    decided_so (λ s. (0 < s) × (s ≤ at)) (λ s. (0 < s) × (s ≤ c.args.last)) c.in-Some.ending
    (λ s p. (p.0, let l = p.1 in omega (arith, l, test))) c.in-Some.ensures.within

pub returns-in-Some-clause-keeps : goal.returns-in-Some-clause-keeps
returns-in-Some-clause-keeps c =
    c.end_at.ensures.keeps
    ∙ ap (λ (f : Facts). record f { changes = c.end_at.new.facts.changes }) c.loop-seconds.invariant.facts

pub returns-in-Some-clause-open_facts : goal.returns-in-Some-clause-open_facts
returns-in-Some-clause-open_facts c =
    unless_so (c.end_at.new.facts ≡ c.loop-seconds.facts) (c.end_at.new.facts ≡ c.args.facts.now) c.in-Some.ending
    (λ e. e ∙ c.loop-seconds.invariant.facts) c.in-Some.ensures.open_facts

pub returns-in-Some-clause-open_links : goal.returns-in-Some-clause-open_links
returns-in-Some-clause-open_links c =
    unless_so (c.end_at.new.links ≡ c.loop-seconds.links) (c.end_at.new.links ≡ c.args.links.now) c.in-Some.ending
    (λ e. e ∙ c.loop-seconds.invariant.links) c.in-Some.ensures.open_links

pub returns-in-Some-clause-room : goal.returns-in-Some-clause-room
returns-in-Some-clause-room c =
    c.end_at.ensures.room
    ∙ ap (λ (f : Facts). f.changes.spare + length f.changes.list) c.loop-seconds.invariant.facts

pub returns-clause-none : goal.returns-clause-none
returns-clause-none c =
    walk_ends c.args.project.now c.args.facts.now c.args.low.now c.args.high.now c.args.flows.now c.loop-seconds.seconds
    c.args.last c.loop-seconds-test.false c.loop-seconds.invariant.walked

pub returns-clause-keeps : goal.returns-clause-keeps
returns-clause-keeps c = keeps_all c.args.facts.now c.loop-seconds.facts c.loop-seconds.invariant.facts

pub returns-clause-room : goal.returns-clause-room
returns-clause-room c = ap (λ (f : Facts). f.changes.spare + length f.changes.list) c.loop-seconds.invariant.facts
