use Rattle.std.proofs.Common.{◌≡◌, ◌∙◌, ℕ, ◌+◌, ◌%◌, ◌<◌, ◌≤◌, length, refl, ap, sym, subst, arith}
use Rattle.std.proofs.Math.Nat.{mod-lt}
use Rattle.hyd_spec_open_ends.specs.RulesOverLengths.{RulesMatterOver}
use Rattle.hyd_theorems_on_nesting.proofs.RuleInstants.{first_multiple}
use Rattle.hyd_period_facts.specs.declared.facts.Facts.{Facts}
use Rattle.hyd_period_facts.specs.FactsBeforeEnd.{HaveTanks}
use Rattle.hyd_period_length.proofs.InstantsTriedSoFar.{next_multiple}
use Rattle.hyd_period_length.proofs.WhatRulesBringAbout.{keeps_all}
use Rattle.hyd_open_rules.specs.OpenReadings.{ForOpenPeriod}
use Rattle.hyd_open_rules.specs.Matters.{IsBroughtOver, seconds_of}
use Rattle.hyd_open_rules.proofs.InstantsWalked.{walk_starts, walk_goes_on, walk_ends, walk_finds}
use Rattle.hyd_open_rules.proofs.rule_instants.first_matter.Goals as goal

pub loop-seconds-init : goal.loop-seconds-init
loop-seconds-init c =
    let some = c.requires.sound.times.rule in
    let time = c.args.facts.now.time in
    let step = c.args.project.now.times.rule in
    record {
      later =
          let past : time % step < step = mod-lt time some in
          omega (arith, past);
      multiple = first_multiple time step some;
      walked = walk_starts c.args.project.now c.args.facts.now c.args.late c.args.readings.now some;
      facts = refl;
      links = refl;
      levels = omega arith;
    }

pub matter_at-requires-clause-tanks : goal.matter_at-requires-clause-tanks
matter_at-requires-clause-tanks c =
    subst (HaveTanks c.args.project.now) (sym c.loop-seconds.invariant.facts) c.requires.tanks

pub matter_at-requires-clause-time : goal.matter_at-requires-clause-time
matter_at-requires-clause-time c =
    let same = ap (λ (f : Facts). f.time) c.loop-seconds.invariant.facts in
    let time = c.requires.time in
    let test = c.loop-seconds-test.true in
    omega (arith, same, time, test)

pub matter_at-requires-clause-links : goal.matter_at-requires-clause-links
matter_at-requires-clause-links c =
    c.loop-seconds.invariant.links ∙ c.requires.links
    ∙ sym (ap (λ (f : Facts). f.links.list) c.loop-seconds.invariant.facts)

pub matter_at-requires-clause-levels : goal.matter_at-requires-clause-levels
matter_at-requires-clause-levels c =
    let kept = c.loop-seconds.invariant.levels in
    let room = c.requires.levels in
    omega (arith, kept, room)

pub matter_at-requires-clause-changes : goal.matter_at-requires-clause-changes
matter_at-requires-clause-changes c =
    let same = ap (λ (f : Facts). f.changes.spare) c.loop-seconds.invariant.facts in
    let room = c.requires.changes in
    omega (arith, same, room)

pub loop-seconds-preserved : goal.loop-seconds-preserved
loop-seconds-preserved c =
    let project = c.args.project.now in
    let facts = c.args.facts.now in
    let late = c.args.late in
    let readings = c.args.readings.now in
    let at : ℕ = c.loop-seconds.seconds in
    let was = c.loop-seconds.invariant in
    record {
      later = let l = was.later in omega (arith, l);
      multiple = next_multiple facts.time at project.times.rule was.multiple;
      walked = walk_goes_on project facts late readings at was.multiple
          (subst (λ (f : Facts). ForOpenPeriod project f late readings
          (λ grid standing row. RulesMatterOver project grid standing row at → ⊥)) was.facts c.in_default.ensures.none)
          was.walked;
      facts = c.in_default.ensures.facts_stay ∙ was.facts;
      links = c.in_default.ensures.links_stay ∙ was.links;
      levels =
          let kept = was.levels in
          let more = c.matter_at.ensures.levels in
          omega (arith, kept, more);
    }

pub returns-in-Some-clause-some : goal.returns-in-Some-clause-some
returns-in-Some-clause-some c =
    let project = c.args.project.now in
    let facts = c.args.facts.now in
    let late = c.args.late in
    let readings = c.args.readings.now in
    let at : ℕ = c.loop-seconds.seconds in
    let was = c.loop-seconds.invariant in
    let after = c.matter_at.new.facts.changes.list in
    let links = c.matter_at.new.links in
    walk_finds project facts late readings at c.args.last facts.changes.list after links c.in-Some.matter was.later
    was.multiple c.loop-seconds-test.true c.in-Some.ensures.seconds was.walked
    (subst (λ (f : Facts). ForOpenPeriod project f late readings
    (λ grid standing row. IsBroughtOver project grid standing row at f.changes.list after links c.in-Some.matter))
    was.facts c.in-Some.ensures.some)

pub returns-in-Some-clause-later : goal.returns-in-Some-clause-later
returns-in-Some-clause-later c =
    let is = c.in-Some.ensures.seconds in
    let later = c.loop-seconds.invariant.later in
    omega (arith, is, later)

pub returns-in-Some-clause-in_time : goal.returns-in-Some-clause-in_time
returns-in-Some-clause-in_time c =
    let is = c.in-Some.ensures.seconds in
    let test = c.loop-seconds-test.true in
    omega (arith, is, test)

pub returns-in-Some-clause-keeps : goal.returns-in-Some-clause-keeps
returns-in-Some-clause-keeps c =
    c.matter_at.ensures.keeps
    ∙ ap (λ (f : Facts). record f { changes = c.matter_at.new.facts.changes }) c.loop-seconds.invariant.facts

pub returns-in-Some-clause-room : goal.returns-in-Some-clause-room
returns-in-Some-clause-room c =
    c.matter_at.ensures.room
    ∙ ap (λ (f : Facts). f.changes.spare + length f.changes.list) c.loop-seconds.invariant.facts

pub returns-clause-none : goal.returns-clause-none
returns-clause-none c =
    walk_ends c.args.project.now c.args.facts.now c.args.late c.args.readings.now c.loop-seconds.seconds
    c.args.last c.loop-seconds-test.false c.loop-seconds.invariant.walked

pub returns-clause-keeps : goal.returns-clause-keeps
returns-clause-keeps c = keeps_all c.args.facts.now c.loop-seconds.facts c.loop-seconds.invariant.facts

pub returns-clause-room : goal.returns-clause-room
returns-clause-room c = ap (λ (f : Facts). f.changes.spare + length f.changes.list) c.loop-seconds.invariant.facts
