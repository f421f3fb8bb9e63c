use Rattle.std.proofs.Common.{◌≡◌, pos, ◌+ℤ◌, ◌*ℤ◌, subst, sym, ap, ◌∙◌, arith, to_z, of_z, ℤ, rules, SFits}
use Rattle.std.specs.Int.{w128, saturate_signed}
use Rattle.std.proofs.Math.IntN.{*ℤ_comm}
use Rattle.std.proofs.lemmas.Int.{ints, to_z-of_z}
use Rattle.hyd_tank.proofs.Contents.{IsNearest, nearest}
use Rattle.hyd_stocks_at_scale.proofs.ContentsInShares.{lies_as}
use Rattle.hyd_stocks_at_scale.proofs.motions.shares_after.Goals as goal

pub returns : goal.returns
returns c =
    let start : SFits w128 c.args.motion.start = search rules in
    let rate : SFits w128 c.args.motion.rate = search rules in
    let a = to_z-of_z w128 c.args.motion.start start in
    let r = to_z-of_z w128 c.args.motion.rate rate in
    let seconds : to_z w128 (of_z w128 c.from.result) ≡ pos c.args.seconds = omega (arith, ints, c.from.ensures) in
    let k = to_z-of_z w128 c.saturating_mul-change.result (record { sfits = c.saturating_mul-change.type_inv }) in
    let s = to_z-of_z w128 c.saturating_add.result (record { sfits = c.saturating_add.type_inv }) in
    let change : to_z w128 (of_z w128 c.saturating_mul-change.result)
    ≡ saturate_signed w128 (pos c.args.seconds *ℤ c.args.motion.rate) =
    k ∙ (c.saturating_mul-change.ensures
    ∙ (ap (λ (z : ℤ). saturate_signed w128 (z *ℤ to_z w128 (of_z w128 c.from.result))) r
    ∙ (ap (λ (z : ℤ). saturate_signed w128 (c.args.motion.rate *ℤ z)) seconds
    ∙ ap (saturate_signed w128) (*ℤ_comm c.args.motion.rate (pos c.args.seconds))))) in
    let sum : to_z w128 (of_z w128 c.saturating_add.result) ≡ saturate_signed w128 (c.args.motion.start
    +ℤ to_z w128 (of_z w128 c.saturating_mul-change.result)) =
    s ∙ (c.saturating_add.ensures
    ∙ ap (λ (z : ℤ). saturate_signed w128 (z +ℤ to_z w128 (of_z w128 c.saturating_mul-change.result))) a) in
    lies_as c.args.motion.start (pos c.args.seconds *ℤ c.args.motion.rate)
    (to_z w128 (of_z w128 c.saturating_mul-change.result)) (to_z w128 (of_z w128 c.saturating_add.result))
    (subst (IsNearest (pos c.args.seconds *ℤ c.args.motion.rate)) (sym change)
    (nearest (pos c.args.seconds *ℤ c.args.motion.rate)))
    (subst (IsNearest (c.args.motion.start +ℤ to_z w128 (of_z w128 c.saturating_mul-change.result))) (sym sum)
    (nearest (c.args.motion.start +ℤ to_z w128 (of_z w128 c.saturating_mul-change.result))))
    c.requires.start
