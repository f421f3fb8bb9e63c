use Rattle.std.proofs.Common.{ℤ, sym, subst}
use Rattle.std.specs.Int.{w128}
use Rattle.std.proofs.lemmas.Int.{to_z-of_z}
use Rattle.hyd_spec.specs.Tank.{Walls, Curve, shape_points}
use Rattle.hyd_tank.proofs.TanksOfSoundNetworks.{walls_with}
use Rattle.hyd_stocks_at_scale.specs.Motions.{Moves, stock_of}
use Rattle.hyd_stocks_at_scale.proofs.stocks.motion_of.Goals as goal

pub returns-in-Some : goal.returns-in-Some
returns-in-Some c =
    let points = shape_points c.args.project.now c.in-Some.field-0 in
    subst (λ (w : Walls). Moves w (stock_of c.args.stock) c.args.inflow c.motion_of_volume.result)
    (sym (walls_with c.args.project.now c.args.tank.now c.in-Some.field-0 c.in-Some.is))
    (subst (λ (q : ℤ). Moves (Curve points) (stock_of c.args.stock) q c.motion_of_volume.result)
    (to_z-of_z w128 c.args.inflow c.ranges.inflow) (c.motion_of_volume.ensures points))
