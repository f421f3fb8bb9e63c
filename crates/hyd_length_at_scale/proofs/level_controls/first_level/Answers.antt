use Rattle.std.proofs.Common.{◌≡◌, ◌∙◌, ℤ, true, false, sym, subst, arith, to_z, of_z}
use Rattle.std.specs.Int.{w64}
use Rattle.std.proofs.lemmas.Int.{ints}
use Rattle.hyd_net.specs.ControlsAndRules.{IsMoment}
use Rattle.hyd_num.specs.Rational.{whole}
use Rattle.hyd_spec.specs.Tank.{reaches}
use Rattle.hyd_spec.specs.PeriodLength.{level_at_start, reached_after}
use Rattle.hyd_spec_certificates.specs.FirstSeconds.{IsFirstSecond}
use Rattle.hyd_lemmas.proofs.ListsOptionsAndResults.{item_there}
use Rattle.hyd_laws_at_scale.specs.Scales.{parts_of}
use Rattle.hyd_length_at_scale.specs.MetPeriods.{told}
use Rattle.hyd_length_at_scale.proofs.FirstSecondsOfLevels.{held_level, level_first}
use Rattle.hyd_length_at_scale.proofs.level_controls.first_level.Goals as goal

pub returns-then-holds_at_start : goal.returns-then-holds_at_start
returns-then-holds_at_start c =
    let period = c.args.period.now in
    let project = period.project.now in
    let S = parts_of period.scale in
    let k = c.in-Level.tank in
    let ticks : ℤ = c.in-Level.ticks in
    let moment = subst (IsMoment project) c.in-Level.is c.requires.control.moment in
    let head = moment.1 in
    let kept : to_z w64 (of_z w64 ticks) ≡ ticks = omega (arith, ints, head) in
    let holds : reaches S c.in-Level.above ticks (whole (level_at_start (told period) k)) ≡ true =
    subst (λ (z : ℤ). reaches S c.in-Level.above z (whole (level_at_start (told period) k)) ≡ true) kept
    (sym c.holds_at_start.ensures ∙ c.if-holds_at_start.true) in
    held_level project S (told period) c.args.control.now k c.in-Level.above ticks c.in-Level.is c.args.cap holds

pub returns : goal.returns
returns c =
    let period = c.args.period.now in
    let project = period.project.now in
    let S = parts_of period.scale in
    let k = c.in-Level.tank in
    let ticks : ℤ = c.in-Level.ticks in
    let moment = subst (IsMoment project) c.in-Level.is c.requires.control.moment in
    let head = moment.1 in
    let kept : to_z w64 (of_z w64 ticks) ≡ ticks = omega (arith, ints, head) in
    let item = item_there project.tanks.list k moment.0 in
    let not : reaches S c.in-Level.above ticks (whole (level_at_start (told period) k)) ≡ false =
    subst (λ (z : ℤ). reaches S c.in-Level.above z (whole (level_at_start (told period) k)) ≡ false) kept
    (sym c.holds_at_start.ensures ∙ c.if-holds_at_start.false) in
    level_first project S (told period) c.args.control.now k c.in-Level.above ticks c.in-Level.is item.0 c.args.cap
    c.first_reached.result item.1 not
    (subst (λ (z : ℤ). IsFirstSecond (reached_after project S (told period) k item.0 c.in-Level.above z) c.args.cap
    c.first_reached.result) kept (c.first_reached.ensures item.0 item.1))
