use Rattle.std.proofs.Common.{ℤ, Bool, true, false, sym, subst, w64}
use Rattle.std.proofs.lemmas.Int.{to_z-of_z}
use Rattle.hyd_spec.specs.Tank.{Curve}
use Rattle.hyd_laws_at_scale.specs.Scales.{parts_of}
use Rattle.hyd_stocks_at_scale.specs.Targets.{StandsFor}
use Rattle.hyd_stocks_at_scale.proofs.tanks_with_curve.target_of_curve.Goals as goal

pub returns-then-rising-clause-stands : goal.returns-then-rising-clause-stands
returns-then-rising-clause-stands c =
    let S = parts_of c.args.scale in
    let walls = Curve c.args.points.now in
    subst (λ (r : Bool). StandsFor S walls c.args.tank.now c.args.level r c.risen_target.result)
    (sym c.if-rising.true)
    (subst (λ (z : ℤ). StandsFor S walls c.args.tank.now z true c.risen_target.result)
    (to_z-of_z w64 c.args.level c.ranges.level) c.risen_target.ensures.stands)

pub returns-else-rising-clause-stands : goal.returns-else-rising-clause-stands
returns-else-rising-clause-stands c =
    let S = parts_of c.args.scale in
    let walls = Curve c.args.points.now in
    subst (λ (r : Bool). StandsFor S walls c.args.tank.now c.args.level r c.fallen_target.result)
    (sym c.if-rising.false)
    (subst (λ (z : ℤ). StandsFor S walls c.args.tank.now z false c.fallen_target.result)
    (to_z-of_z w64 c.args.level c.ranges.level) c.fallen_target.ensures.stands)
