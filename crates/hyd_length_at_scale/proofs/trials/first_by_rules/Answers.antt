use Rattle.std.proofs.Common.{◌≡◌, ◌∙◌, ◌%◌, ◌<◌, drop, length, arith}
use Rattle.hyd_period_network.proofs.OverwrittenLists.{refilled}
use Rattle.std.proofs.Math.Nat.{mod-lt}
use Rattle.hyd_laws_at_scale.specs.Scales.{parts_of}
use Rattle.hyd_theorems_on_nesting.proofs.RuleInstants.{first_multiple}
use Rattle.hyd_length_at_scale.specs.MetPeriods.{told}
use Rattle.hyd_length_at_scale.proofs.TestsKept.{held, failed}
use Rattle.hyd_length_at_scale.proofs.LeastEnd.{next_multiple, none_before_first, none_before_next, cap_first}
use Rattle.hyd_length_at_scale.proofs.LeastEnd.{rules_first}
use Rattle.hyd_length_at_scale.proofs.trials.first_by_rules.Goals as goal

pub loop-instant-init : goal.loop-instant-init
loop-instant-init c =
    let period = c.args.period.now in
    let project = period.project.now in
    let some = c.requires.period.sound.times.rule in
    let time = period.moment.now.time in
    let past : time % project.times.rule < project.times.rule = mod-lt time some in
    record {
      later = omega (arith, past);
      multiple = first_multiple time project.times.rule some;
      before = none_before_first project (parts_of period.scale) (told period) some;
      links = refilled c.args.room.now.links.len c.copy_states.new.into (drop (length c.copy_states.new.into)
          c.args.room.now.links.items) (omega (arith, c.copy_states.auto.into, c.deref_mut.ensures.len))
          ∙ c.copy_states.ensures;
      trial = c.requires.room.trial;
    }

pub loop-instant-preserved : goal.loop-instant-preserved
loop-instant-preserved c =
    let period = c.args.period.now in
    let project = period.project.now in
    let S = parts_of period.scale in
    let was = c.loop-instant.invariant in
    let test = c.if-act_at.false in
    record {
      later = let l = was.later in omega (arith, l);
      multiple = next_multiple c.loop-instant.instant project.times.rule was.multiple;
      before = none_before_next project S (told period) c.loop-instant.instant was.multiple
          (failed c.act_at.result _ test c.act_at.ensures.no) was.before;
      links = refilled c.loop-instant.room.links.len c.act_at.new.links (drop (length c.act_at.new.links)
          c.loop-instant.room.links.items)
          (omega (arith, c.act_at.auto.links, c.deref_mut-in-loop-instant.ensures.len))
          ∙ failed c.act_at.result (c.act_at.new.links ≡ period.links.now) test c.act_at.ensures.stays;
      trial = c.act_at.ensures.room;
    }

pub returns-then-act_at-clause-first : goal.returns-then-act_at-clause-first
returns-then-act_at-clause-first c =
    let period = c.args.period.now in
    let was = c.loop-instant.invariant in
    rules_first period.project.now (parts_of period.scale) (told period) c.args.cap c.loop-instant.instant
    c.loop-instant-test.true was.later was.multiple
    (held c.act_at.result _ c.if-act_at.true c.act_at.ensures.yes) was.before

pub returns-clause-first : goal.returns-clause-first
returns-clause-first c =
    let period = c.args.period.now in
    cap_first period.project.now (parts_of period.scale) (told period) c.args.cap c.loop-instant.instant
    c.loop-instant-test.false c.loop-instant.invariant.before
