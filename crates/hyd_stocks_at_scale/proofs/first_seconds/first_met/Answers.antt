use Rattle.std.proofs.Common.{◌≡◌, ◌-ℤ◌, pos, neg_ℤ, Bool, sym, subst, arith, to_z, of_z, true, false, SFits, rules}
use Rattle.std.specs.Int.{w128}
use Rattle.std.proofs.lemmas.Int.{ints, to_z-of_z}
use Rattle.hyd_stocks_at_scale.specs.declared.first_seconds.Target.{Target}
use Rattle.hyd_stocks_at_scale.specs.Targets.{IsSmall, IsFirstMet}
use Rattle.hyd_stocks_at_scale.proofs.TargetsMet.{rises_met, falls_met}
use Rattle.hyd_stocks_at_scale.proofs.first_seconds.first_met.Goals as goal

pub returns-in-Shares : goal.returns-in-Shares
returns-in-Shares c =
    let shares = c.in-Shares.shares in
    let small = subst IsSmall c.in-Shares.is c.requires.target in
    let start = c.requires.motion.start in
    let fits : SFits w128 c.args.motion.rate = search rules in
    let need = to_z w128 (of_z w128 (to_z w128 (of_z w128 shares) -ℤ to_z w128 (of_z w128 c.args.motion.start))) in
    let same : need ≡ shares -ℤ c.args.motion.start = omega (arith, ints, start, small) in
    let r = to_z-of_z w128 c.args.motion.rate fits in
    subst (λ (b : Bool). IsFirstMet c.args.motion c.args.target b c.args.cap c.first_meeting.result)
    (sym c.if-rising.true)
    (subst (λ (t : Target). IsFirstMet c.args.motion t true c.args.cap c.first_meeting.result)
    (sym c.in-Shares.is)
    (rises_met c.args.motion need shares c.args.cap c.first_meeting.result same (rw r at c.first_meeting.ensures)))

pub returns-in-Shares-2 : goal.returns-in-Shares-2
returns-in-Shares-2 c =
    let shares = c.in-Shares-2.shares in
    let small = subst IsSmall c.in-Shares-2.is c.requires.target in
    let start = c.requires.motion.start in
    let rate = c.requires.motion.rate in
    let need = to_z w128 (of_z w128 (to_z w128 (of_z w128 c.args.motion.start) -ℤ to_z w128 (of_z w128 shares))) in
    let same : need ≡ c.args.motion.start -ℤ shares = omega (arith, ints, start, small) in
    let back = to_z w128 (of_z w128 (pos 0 -ℤ to_z w128 (of_z w128 c.args.motion.rate))) in
    let turned : back ≡ neg_ℤ c.args.motion.rate = omega (arith, ints, rate) in
    subst (λ (b : Bool). IsFirstMet c.args.motion c.args.target b c.args.cap c.first_meeting-in-Shares-2.result)
    (sym c.if-rising.false)
    (subst (λ (t : Target). IsFirstMet c.args.motion t false c.args.cap c.first_meeting-in-Shares-2.result)
    (sym c.in-Shares-2.is)
    (falls_met c.args.motion need back shares c.args.cap c.first_meeting-in-Shares-2.result same turned
    c.first_meeting-in-Shares-2.ensures))
