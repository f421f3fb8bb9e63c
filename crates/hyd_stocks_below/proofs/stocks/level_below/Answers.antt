use Rattle.std.proofs.Common.{◌≡◌, ◌∙◌, ℕ, subst, to_z, of_z, arith}
use Rattle.std.specs.Int.{w128}
use Rattle.std.proofs.lemmas.Int.{ints, to_z-of_z}
use Rattle.hyd_spec.specs.Tank.{walls_of, carried_level}
use Rattle.hyd_stocks_at_scale.specs.ExactLevels.{IsLevel}
use Rattle.hyd_stocks_at_scale.specs.Motions.{stock_of}
use Rattle.hyd_stocks_below.proofs.CarriedLevels.{carried_whole, whole_small}
use Rattle.hyd_stocks_below.proofs.stocks.level_below.Goals as goal

pub returns-clause-small : goal.returns-clause-small
returns-clause-small c =
    let level = c.carried_level.result in
    let kept = to_z-of_z w128 c.args.inflow c.ranges.inflow in
    let small = whole_small c.args.project.now c.requires.sound c.args.tank (stock_of c.args.stock) c.args.inflow
    c.args.seconds level
    (λ e a. subst (λ (S : ℕ). IsLevel level (carried_level S (walls_of c.args.project.now e) e (stock_of c.args.stock)
    c.args.inflow c.args.seconds)) c.halves.ensures (rw kept at (c.carried_level.ensures e a))) c.requires.tank in
    omega (arith, ints, small)

pub returns-clause-value : goal.returns-clause-value
returns-clause-value c = λ each at.
    let level = c.carried_level.result in
    let kept = to_z-of_z w128 c.args.inflow c.ranges.inflow in
    let whole = carried_whole c.args.project.now c.requires.sound c.args.tank (stock_of c.args.stock) c.args.inflow
    c.args.seconds level
    (λ e a. subst (λ (S : ℕ). IsLevel level (carried_level S (walls_of c.args.project.now e) e (stock_of c.args.stock)
    c.args.inflow c.args.seconds)) c.halves.ensures (rw kept at (c.carried_level.ensures e a))) each at in
    let below = whole_small c.args.project.now c.requires.sound c.args.tank (stock_of c.args.stock) c.args.inflow
    c.args.seconds level
    (λ e a. subst (λ (S : ℕ). IsLevel level (carried_level S (walls_of c.args.project.now e) e (stock_of c.args.stock)
    c.args.inflow c.args.seconds)) c.halves.ensures (rw kept at (c.carried_level.ensures e a))) c.requires.tank in
    let same : to_z w128 (of_z w128 level.whole) ≡ level.whole = omega (arith, ints, below) in
    same ∙ whole
