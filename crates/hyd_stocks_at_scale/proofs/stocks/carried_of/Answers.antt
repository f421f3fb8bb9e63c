use Rattle.std.proofs.Common.{◌≡◌, ap, sym, subst, ◌∙◌}
use Rattle.hyd_spec.specs.Tank.{Walls, Curve, walls_of, carried_level}
use Rattle.hyd_tank.proofs.TanksOfSoundNetworks.{walls_without, walls_with}
use Rattle.hyd_laws_at_scale.specs.Scales.{parts_of}
use Rattle.hyd_stocks_at_scale.specs.ExactLevels.{IsLevel}
use Rattle.hyd_stocks_at_scale.specs.Motions.{Moves}
use Rattle.hyd_stocks_at_scale.proofs.stocks.carried_of.Goals as goal

pub returns-in-None : goal.returns-in-None
returns-in-None c = λ stock q moves.
    let S = parts_of c.args.scale in
    let tank = c.args.tank.now in
    let walls = walls_without c.args.project.now tank c.in-None.is in
    subst (λ (w : Walls). IsLevel c.carried_of_cylinder.result (carried_level S w tank stock q c.args.seconds))
    (sym walls)
    (c.carried_of_cylinder.ensures stock q (subst (λ (w : Walls). Moves w stock q c.args.motion) walls moves))

pub returns-in-Some : goal.returns-in-Some
returns-in-Some c = λ stock q moves.
    let S = parts_of c.args.scale in
    let tank = c.args.tank.now in
    let walls : walls_of c.args.project.now c.args.tank.now ≡ Curve c.points_of.result.now =
    walls_with c.args.project.now tank c.in-Some.shape c.in-Some.is ∙ sym (ap Curve c.points_of.ensures) in
    subst (λ (w : Walls). IsLevel c.carried_of_curve.result (carried_level S w tank stock q c.args.seconds))
    (sym walls)
    (c.carried_of_curve.ensures stock q (subst (λ (w : Walls). Moves w stock q c.args.motion) walls moves))
